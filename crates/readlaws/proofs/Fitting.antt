-- A job that was read fits in the memory of a whole job: at most 1,024 cells and regions, and its texts in 32,768 bytes, half of the
-- longest text. So no text is refused with 6 when it is read. Assumes nothing.
use Prim.Native.Nat.{ℕ, ◌≤◌}
use mathlib.Core.Path.{◌≡◌}
use mathlib.Core.Bool.{true}
use mathlib.Core.List.{List}
use native.Mathlib.Omega.{arith}
use lib.ListN.{length, replicate, length-map, length-replicate}
use borrow.Author.Tests.{le-leb}
use Rattle.jobtext.specs.Written.{JobText}
use Rattle.jobtext.specs.Text.{of_job}
use Rattle.jobtext.specs.Read.{ReadResult, Readable, read}
use Rattle.jobtext.specs.Laid.{columns_from, laid}
use Rattle.jobtext.proofs.Reading.{read_accepted}
use Rattle.celllines.specs.Columns.{columns}
use Rattle.reader.specs.Held.{Held, held, fits_in}
use Rattle.jobtext.proofs.Lengths.{ats_length}
use Rattle.textlaws.proofs.PoolHalf.{counts_few, pool_half}

-- ---- the job

pub record Fits (j : JobText) : Type 0 where
  pub cells : length j.cells ≤ 1024
  pub regions : length j.regions ≤ 1024
  pub pool : length (laid j).pool ≤ 32_768

readable_fits : (j : JobText) → Readable j → Fits j
readable_fits j r =
    let few = counts_few (of_job j).0 r.counts in
    record { cells = few.0; regions = few.1; pool = let h = pool_half j r.ok in omega (arith, r.fits) }

pub read_fits : (s : List ℕ) (j : JobText) → read s ≡ ReadResult.is j → Fits j
read_fits s j e = readable_fits j (read_accepted s j e).readable

-- ---- the memory of a whole job

-- nine columns of 1,024 and a pool of 32,768
abbrev pub whole_memory : Held
whole_memory =
    held (columns (replicate 1024 0) (replicate 1024 0) (replicate 1024 0) (replicate 1024 0) (replicate 1024 0) (replicate 1024 0)
    (replicate 1024 0)) (replicate 1024 0) (replicate 1024 0) (replicate 32_768 0)

-- every job that a text can say fits in it
pub never_short : (s : List ℕ) (j : JobText) → read s ≡ ReadResult.is j → fits_in (laid j) whole_memory ≡ true
unfolding fits_in laid columns_from
never_short s j e =
    let f = read_fits s j e in
    let cells = le-leb (length j.cells) 1024 f.cells in
    let regions = le-leb (length j.regions) 1024 f.regions in
    let pool = le-leb (length (laid j).pool) 32_768 f.pool in
    simp (length-map, ats_length, length-replicate) (rw (cells, regions, pool))
