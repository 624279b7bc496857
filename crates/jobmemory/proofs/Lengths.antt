-- What reading answers and leaves depends on the lengths of a memory alone, and not on what it held. Assumes nothing.
use Prim.Native.Nat.{ℕ}
use mathlib.Core.Path.{◌≡◌, refl}
use mathlib.Core.Bool.{Bool}
use lib.ListN.{length, replicate}
use Rattle.model.specs.Job.{Job}
use Rattle.jobtext.specs.Read.{ReadResult, read}
use Rattle.jobtext.specs.Laid.{laid}
use Rattle.reader.specs.Held.{Held, fits_in, laid_in, cleared, read_job, held_after}
use Rattle.readlaws.proofs.Fitting.{whole_memory, never_short}
use Rattle.reader.specs.declared.ReadJob.{ReadJob}
use Rattle.reader.specs.declared.Unread.{Unread}
use Rattle.reader.specs.Held.{taken_as}
use Rattle.std.specs.Prelude.{Result, Ok, Err}
use Rattle.jobmemory.specs.ReadAs.{ReadAs}
use mathlib.Core.List.{List}

-- a memory with columns of 1,024 and a pool of 32,768
pub record Whole (h : Held) : Type 0 where
  pub rows : length h.cells.rows ≡ length (replicate {A = ℕ} 1024 0)
  pub cols : length h.cells.cols ≡ length (replicate {A = ℕ} 1024 0)
  pub kinds : length h.cells.kinds ≡ length (replicate {A = ℕ} 1024 0)
  pub wraps : length h.cells.wraps ≡ length (replicate {A = ℕ} 1024 0)
  pub nums : length h.cells.nums ≡ length (replicate {A = ℕ} 1024 0)
  pub ats : length h.cells.ats ≡ length (replicate {A = ℕ} 1024 0)
  pub lens : length h.cells.lens ≡ length (replicate {A = ℕ} 1024 0)
  pub region_rows : length h.region_rows ≡ length (replicate {A = ℕ} 1024 0)
  pub region_cols : length h.region_cols ≡ length (replicate {A = ℕ} 1024 0)
  pub pool : length h.pool ≡ length (replicate {A = ℕ} 32_768 0)

module _ (h : Held) (w : Whole h) where
  fits_alike : (j : Job) → fits_in j h ≡ fits_in j whole_memory
  unfolding fits_in
  fits_alike j = rw (w.rows, w.cols, w.kinds, w.wraps, w.nums, w.ats, w.lens, w.region_rows, w.region_cols, w.pool)

  pub read_alike : (x : ReadResult) → read_job h x ≡ read_job whole_memory x
  unfolding read_job
  read_alike (ReadResult.is j) = rw (fits_alike (laid j))
  read_alike ReadResult.too_long = refl
  read_alike (ReadResult.bad_line line) = refl
  read_alike (ReadResult.too_many start) = refl

  -- what is laid in a memory, and zeros, depend on its lengths
  same : (b : Bool) (j : Job) → laid_in b j h ≡ laid_in b j whole_memory
  same b j = rw (w.rows, w.cols, w.kinds, w.wraps, w.nums, w.ats, w.lens, w.region_rows, w.region_cols, w.pool)

  zeros : cleared h ≡ cleared whole_memory
  zeros = rw (w.rows, w.cols, w.kinds, w.wraps, w.nums, w.ats, w.lens, w.region_rows, w.region_cols, w.pool)

  pub left_alike : (x : ReadResult) → held_after x h ≡ held_after x whole_memory
  unfolding held_after
  left_alike (ReadResult.is j) = rw (fits_alike (laid j)) (same (fits_in (laid j) whole_memory) (laid j))
  left_alike ReadResult.too_long = zeros
  left_alike (ReadResult.bad_line line) = zeros
  left_alike (ReadResult.too_many start) = zeros

-- why a text is not read
pub unread_as : (s : List ℕ) {e : Unread} → Err e ≡ read_job whole_memory (read s) → ReadAs (read s) (Err e)
unfolding read_job
unread_as s {e} h = go (read s) refl h
  where
    go : (x : ReadResult) → read s ≡ x → Err e ≡ read_job whole_memory x → ReadAs x (Err e)
    go (ReadResult.is j) is h =
        let no : ◌≡◌ {A = Result ReadJob Unread} (Err e) (Ok (taken_as (laid j) j.limit)) = rw (never_short s j is) at h in cc
    go ReadResult.too_long is h = let same : e ≡ Unread.TooLong = cc in rw same refl
    go (ReadResult.bad_line line) is h = let same : e ≡ Unread.Malformed line = cc in rw same refl
    go (ReadResult.too_many start) is h = let same : e ≡ Unread.TooMany start = cc in rw same refl
