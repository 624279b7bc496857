-- What is lent after a job text: the job where one was read that fits, zeros from end to end where it was refused. Assumes nothing.
use Prim.Native.Nat.{ℕ}
use mathlib.Core.Path.{◌≡◌, refl, sym, ◌∙◌}
use mathlib.Core.Bool.{Bool, true, false, cond}
use mathlib.Core.List.{List}
use Rattle.std.specs.Prelude.{Result, Ok, Err}
use Rattle.std.specs.Result.{is_err}
use lib.ListN.{length}
use Rattle.memory.proofs.Laws.{page_refused}
use Rattle.model.specs.Sheet.{CellColumns}
use Rattle.model.specs.Job.{Job}
use Rattle.jobtext.specs.Read.{ReadResult}
use Rattle.jobtext.specs.Laid.{laid}
use Rattle.celllines.specs.Columns.{zero_columns, zeroed}
use Rattle.celllines.proofs.Sections.{Long}
use Rattle.celllines.proofs.Whole.{blank_long}
use Rattle.reader.specs.declared.ReadJob.{ReadJob}
use Rattle.reader.specs.declared.Unread.{Unread}
use Rattle.reader.specs.Held.{taken_as, Held, held, fits_in, laid_in, cleared, read_job, held_after}
use Rattle.reader.specs.Results.{JobLeft}

-- a memory that is refused
none_held : (j : Job) (h : Held) → laid_in false j h ≡ cleared h
none_held j h = simp (page_refused {A = ℕ} 0)

module _ (h e : Held) where
  -- where a job was read that fits, and where none was
  job_held : {j : Result ReadJob Unread} (z : ReadResult) → j ≡ read_job h z → is_err j ≡ false → JobLeft z h e → e ≡ held_after z h
  unfolding read_job held_after
  job_held {j} (ReadResult.is k) x n l = go (fits_in (laid k) h) x l
    where
      go : (b : Bool) → j ≡ cond b (Ok (taken_as (laid k) k.limit)) (Err (Unread.SpaceShort k.start))
          → (b ≡ true → e ≡ laid_in true (laid k) h) → e ≡ laid_in b (laid k) h
      go true x l = l refl
      go false x l = let w = rw x at n in absurd (cc)
  job_held ReadResult.too_long x n l = let w = rw x at n in absurd (cc)
  job_held (ReadResult.bad_line line) x n l = let w = rw x at n in absurd (cc)
  job_held (ReadResult.too_many start) x n l = let w = rw x at n in absurd (cc)

  job_cleared : {j : Result ReadJob Unread} (z : ReadResult) → j ≡ read_job h z → is_err j ≡ true → e ≡ cleared h → e ≡ held_after z h
  unfolding read_job held_after
  job_cleared {j} (ReadResult.is k) x n c = go (fits_in (laid k) h) x
    where
      go : (b : Bool) → j ≡ cond b (Ok (taken_as (laid k) k.limit)) (Err (Unread.SpaceShort k.start)) → e ≡ laid_in b (laid k) h
      go true x = let w = rw x at n in absurd (cc)
      go false x = c ∙ sym (none_held (laid k) h)
  job_cleared ReadResult.too_long x n c = c
  job_cleared (ReadResult.bad_line line) x n c = c
  job_cleared (ReadResult.too_many start) x n c = c

-- ---- zeros of what kept its lengths

abbrev pub Same : List ℕ → List ℕ → Type 0
Same a b = length a ≡ length b

-- all that is lent, as long as it was
abbrev pub Kept : CellColumns → List ℕ → List ℕ → List ℕ → CellColumns → List ℕ → List ℕ → List ℕ → Type 0
Kept m rows₁ cols₁ pool₁ d rows cols pool =
    Same m.rows d.rows
    × (Same m.cols d.cols
    × (Same m.kinds d.kinds
    × (Same m.wraps d.wraps
    × (Same m.nums d.nums
    × (Same m.ats d.ats
    × (Same m.lens d.lens × (Same rows₁ rows × (Same cols₁ cols × (Same pool₁ pool × Unit {0})))))))))

module _ (z : ReadResult) (d : CellColumns) (rows cols pool : List ℕ) where
  pub job_taken : {j : Result ReadJob Unread} (e : Held) → is_err j ≡ false → (j ≡ read_job (held d rows cols pool) z) × JobLeft z (held d rows cols pool) e
      → (j ≡ read_job (held d rows cols pool) z) × (e ≡ held_after z (held d rows cols pool))
  job_taken e n x = (x.0, job_held (held d rows cols pool) e z x.0 n x.1)

  pub job_refused : {j : Result ReadJob Unread} {e : CellColumns} {rows₂ cols₂ pool₂ : List ℕ} (m : CellColumns) (rows₁ cols₁ pool₁ : List ℕ)
      → j ≡ read_job (held d rows cols pool) z → is_err j ≡ true → Kept m rows₁ cols₁ pool₁ d rows cols pool
      → e ≡ zero_columns m → rows₂ ≡ zeroed rows₁ → cols₂ ≡ zeroed cols₁ → pool₂ ≡ zeroed pool₁
      → (j ≡ read_job (held d rows cols pool) z) × (held e rows₂ cols₂ pool₂ ≡ held_after z (held d rows cols pool))
  job_refused {e = e} {rows₂ = rows₂} {cols₂ = cols₂} {pool₂ = pool₂} m rows₁ cols₁ pool₁ y n k x r c p =
      let t = k.1.1.1.1.1.1.1 in
      let long : Long m d = record {
        rows = k.0;
        cols = k.1.0;
        kinds = k.1.1.0;
        wraps = k.1.1.1.0;
        nums = k.1.1.1.1.0;
        ats = k.1.1.1.1.1.0;
        lens = k.1.1.1.1.1.1.0;
      } in
      let all : held e rows₂ cols₂ pool₂ ≡ cleared (held d rows cols pool) =
      rw (x, r, c, p, blank_long m d long, t.0, t.1.0, t.1.1.0) in
      (y, job_cleared (held d rows cols pool) (held e rows₂ cols₂ pool₂) z y n all)
