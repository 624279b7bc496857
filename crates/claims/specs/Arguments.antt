-- The arguments of a call, as the reading of its contract (`Pre`, `Post`) has them: lent slices, and the parameters in their order.
-- Assumes nothing.
use Rattle.std.specs.Prelude.{ℕ, List}
use Rattle.std.specs.Borrow.{GName, Bor, MutBor}
use contract.Lifetimes.{Lfts}
use Rattle.model.specs.declared.LentJob.{LentJob}
use Rattle.model.specs.Job.{Job}

-- where lent slices lie, by the number of the parameter; n lifetimes
pub record Places (n : ℕ) : Type 0 where
  pub lifetimes : Lfts n
  pub place : ℕ → ℕ × ℕ
  pub name : ℕ → GName

-- a slice that is read, and one that is written to
abbrev pub slice : {A : Type 0} {n : ℕ} → Places n → ℕ → List A → Bor (List A)
slice w i xs = record { ref_ptr = w.place i; now = xs }

-- a value that is read
abbrev pub shared : {A : Type 0} {n : ℕ} → Places n → ℕ → A → Bor A
shared w i x = record { ref_ptr = w.place i; now = x }

abbrev pub slice_mut : {A : Type 0} {n : ℕ} → Places n → ℕ → List A → MutBor (List A)
slice_mut w i xs = record { ref_ptr = w.place i; ghost_name = w.name i; now = xs }

-- a slice of numbers
abbrev pub Numbers : Type 0
Numbers = Bor (List ℕ)

abbrev pub NumbersMut : Type 0
NumbersMut = MutBor (List ℕ)

-- the parameters in their order: pairs in pairs
infixr 3 ◌⊗◌
abbrev pub ◌⊗◌ : Type 0 → Type 0 → Type 0
A ⊗ B = A × B

infixr 3 ◌&◌
abbrev pub ◌&◌ : {A B : Type 0} → A → B → A ⊗ B
a & b = (a, b)

-- a job over lent columns
abbrev pub job_at : {n : ℕ} → Places n → Job → LentJob
job_at w j =
    record {
      cells = record {
        rows = slice w 0 j.cells.rows;
        cols = slice w 1 j.cells.cols;
        kinds = slice w 2 j.cells.kinds;
        wraps = slice w 3 j.cells.wraps;
        nums = slice w 4 j.cells.nums;
        ats = slice w 5 j.cells.ats;
        lens = slice w 6 j.cells.lens;
      };
      regions = record { rows = slice w 7 j.region_rows; cols = slice w 8 j.region_cols };
      pool = slice w 9 j.pool;
      name = j.name;
      rules = shared w 10 j.rules;
      start = j.start;
    }
