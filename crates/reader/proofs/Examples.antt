-- The contract of `read_job` computed on a job of two cells, one region and a name, over memory that held sevens: exact, longer by one, and
-- each memory one short in turn; and on a refused text. Assumes nothing.
use Prim.Native.Nat.{ℕ}
use mathlib.Core.Path.{◌≡◌, refl}
use mathlib.Core.List.{[], ◌∷◌}
use lib.ListN.{replicate}
use Rattle.memory.specs.Memory.{all_or}
use Rattle.jobtext.specs.Written.{Value, JobText}
use Rattle.jobtext.specs.Read.{ReadResult}
use Rattle.jobtext.specs.Laid.{
  value_bytes,
  cell_bytes,
  kind_of,
  num_of,
  at_of,
  len_of,
  ats_from,
  columns_from,
  rule_bytes,
  laid,
}
use Rattle.celllines.specs.Columns.{columns}
use Rattle.reader.specs.declared.ReadJob.{ReadJob}
use Rattle.reader.specs.declared.Unread.{Unread}
use Rattle.std.specs.Result.{IfOk, is_err}
use Rattle.std.specs.Prelude.{Result, Err}
use mathlib.Core.Bool.{false}
use Rattle.reader.specs.Held.{Held, held, cleared, fits_in, read_job, held_after}

-- the sheet N with the number 9 in row 3 and the text A in row 4, of which the first is looked at
abbrev job : JobText
job =
    record {
      limit = 100;
      start = 5;
      name = 78 ∷ [];
      cells =
          record { row = 3; col = 1; wraps = 0; value = Value.number 9 }
          ∷ record { row = 4; col = 2; wraps = 1; value = Value.text (65 ∷ []) }
          ∷ [];
      regions = record { row = 3; col = 1 } ∷ [];
      rules = [];
    }

abbrev result : ReadResult
result = ReadResult.is job

-- memory of ten lengths
abbrev memory : ℕ → ℕ → ℕ → ℕ → ℕ → ℕ → ℕ → ℕ → ℕ → ℕ → Held
memory rows cols kinds wraps nums ats lens region_rows region_cols pool =
    held (columns (replicate rows 7) (replicate cols 7) (replicate kinds 7) (replicate wraps 7) (replicate nums 7) (replicate ats 7)
    (replicate lens 7)) (replicate region_rows 7) (replicate region_cols 7) (replicate pool 7)

-- ---- the job

exact : held_after result (memory 2 2 2 2 2 2 2 1 1 2)
    ≡ held (columns (3 ∷ 4 ∷ []) (1 ∷ 2 ∷ []) (1 ∷ 3 ∷ []) (0 ∷ 1 ∷ []) (9 ∷ 0 ∷ []) (0 ∷ 1 ∷ []) (0 ∷ 1 ∷ [])) (3 ∷ []) (1 ∷ [])
    (78 ∷ 65 ∷ [])
unfolding held_after fits_in laid columns_from cell_bytes value_bytes rule_bytes kind_of num_of at_of len_of ats_from all_or
exact = refl

longer : held_after result (memory 3 3 3 3 3 3 3 2 2 3)
    ≡ held (columns (3 ∷ 4 ∷ 0 ∷ []) (1 ∷ 2 ∷ 0 ∷ []) (1 ∷ 3 ∷ 0 ∷ []) (0 ∷ 1 ∷ 0 ∷ []) (9 ∷ 0 ∷ 0 ∷ []) (0 ∷ 1 ∷ 0 ∷ []) (0 ∷ 1 ∷ 0 ∷ []))
    (3 ∷ 0 ∷ []) (1 ∷ 0 ∷ []) (78 ∷ 65 ∷ 0 ∷ [])
unfolding held_after fits_in laid columns_from cell_bytes value_bytes rule_bytes kind_of num_of at_of len_of ats_from all_or
longer = refl

-- the numbers of the answer are the same
abbrev Told : Result ReadJob Unread → Type 0
Told r = IfOk r (λ j. (j.start ≡ 5) × (j.limit ≡ 100) × (j.cells ≡ 2) × (j.regions ≡ 1) × (j.used ≡ 2)) × (is_err r ≡ false)

told : Told (read_job (memory 2 2 2 2 2 2 2 1 1 2) result) × Told (read_job (memory 3 3 3 3 3 3 3 2 2 3) result)
unfolding read_job fits_in laid columns_from cell_bytes value_bytes rule_bytes ats_from
told = (((refl, refl, refl, refl, refl), refl), ((refl, refl, refl, refl, refl), refl))

-- ---- one short

-- refused with the start of the job, and zeros
abbrev Short : Held → Type 0
Short h = (read_job h result ≡ Err (Unread.SpaceShort 5)) × (held_after result h ≡ cleared h)

cells_short : Short (memory 1 2 2 2 2 2 2 1 1 2)
    × Short (memory 2 1 2 2 2 2 2 1 1 2)
    × Short (memory 2 2 1 2 2 2 2 1 1 2)
    × Short (memory 2 2 2 1 2 2 2 1 1 2)
    × Short (memory 2 2 2 2 1 2 2 1 1 2)
    × Short (memory 2 2 2 2 2 1 2 1 1 2)
    × Short (memory 2 2 2 2 2 2 1 1 1 2)
unfolding read_job held_after fits_in laid columns_from cell_bytes value_bytes rule_bytes ats_from all_or
cells_short = ((refl, refl), (refl, refl), (refl, refl), (refl, refl), (refl, refl), (refl, refl), (refl, refl))

regions_short : Short (memory 2 2 2 2 2 2 2 0 1 2) × Short (memory 2 2 2 2 2 2 2 1 0 2)
unfolding read_job held_after fits_in laid columns_from cell_bytes value_bytes rule_bytes ats_from all_or
regions_short = ((refl, refl), (refl, refl))

pool_short : Short (memory 2 2 2 2 2 2 2 1 1 1)
unfolding read_job held_after fits_in laid columns_from cell_bytes value_bytes rule_bytes ats_from all_or
pool_short = (refl, refl)

-- the pool one short, and the other memory longer
zeros : held_after result (memory 3 3 3 3 3 3 3 2 2 1)
    ≡ held (columns (0 ∷ 0 ∷ 0 ∷ []) (0 ∷ 0 ∷ 0 ∷ []) (0 ∷ 0 ∷ 0 ∷ []) (0 ∷ 0 ∷ 0 ∷ []) (0 ∷ 0 ∷ 0 ∷ []) (0 ∷ 0 ∷ 0 ∷ []) (0 ∷ 0 ∷ 0 ∷ []))
    (0 ∷ 0 ∷ []) (0 ∷ 0 ∷ []) (0 ∷ [])
unfolding held_after fits_in laid columns_from cell_bytes value_bytes rule_bytes ats_from all_or
zeros = refl

-- ---- a refused text

malformed : (read_job (memory 2 2 2 2 2 2 2 1 1 1) (ReadResult.bad_line 4) ≡ Err (Unread.Malformed 4))
    × (held_after (ReadResult.bad_line 4) (memory 1 1 1 1 1 1 1 1 0 2)
    ≡ held (columns (0 ∷ []) (0 ∷ []) (0 ∷ []) (0 ∷ []) (0 ∷ []) (0 ∷ []) (0 ∷ [])) (0 ∷ []) [] (0 ∷ 0 ∷ []))
unfolding read_job held_after
malformed = (refl, refl)
