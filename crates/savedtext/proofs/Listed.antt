-- The list of what a function gives from a number on: the cells and the regions that a job says are such lists. Assumes nothing.
use Prim.Native.Nat.{ℕ, zero, suc, ◌+◌, ◌≤◌, ◌<◌}
use native.Mathlib.Nat.{eq-or-lt_of_le}
use native.Mathlib.Omega.{arith}
use mathlib.Core.Path.{◌≡◌, refl, ap, ap₂, subst}
use mathlib.Core.Logic.{⊎_elim}
use mathlib.Core.List.{List, [], ◌∷◌}
use lib.ListN.{length, get_or}
use Rattle.model.specs.declared.CellCoordinate.{CellCoordinate}
use Rattle.model.specs.Sheet.{CellColumns, regions_from}
use Rattle.model.specs.Job.{Job, cell_count, region_count}
use Rattle.grammar.specs.Parts.{times_ok}
use Rattle.jobtext.specs.Said.{cell_said, cells_said, job_said}

module _ {A : Type 0} where
  -- what f gives at the n numbers from i on
  abbrev pub listed : (ℕ → A) → ℕ → ℕ → List A
  listed f i zero = []
  listed f i (suc n) = f i ∷ listed f (suc i) n

  pub listed_length : (f : ℕ → A) (i n : ℕ) → length (listed f i n) ≡ n
  listed_length f i zero = refl
  listed_length f i (suc n) = ap suc (listed_length f (suc i) n)

  pub listed_ok : (o : A → Type 0) (f : ℕ → A) (i n : ℕ) → ((k : ℕ) → i ≤ k → k < i + n → o (f k))
      → times_ok o (length (listed f i n)) (listed f i n)
  listed_ok o f i zero h = tt
  listed_ok o f i (suc n) h = (h i (omega arith) (omega arith), listed_ok o f (suc i) n (λ k a b. h k (omega arith) (omega arith)))

  -- lists that are equal are equal at each number
  pub listed_same : (f g : ℕ → A) (i n m : ℕ) → listed f i n ≡ listed g i m → (k : ℕ) → i ≤ k → k < i + n → f k ≡ g k
  listed_same f g i zero m e k a b = absurd (omega arith)
  listed_same f g i (suc n) zero e k a b = cc
  listed_same f g i (suc n) (suc m) e k a b =
      let first : f i ≡ g i = cc in
      let later : listed f (suc i) n ≡ listed g (suc i) m = cc in
      ⊎_elim (λ (s : i ≡ k). subst (λ (x : ℕ). f x ≡ g x) s first)
      (λ (s : i < k). listed_same f g (suc i) n m later k s (omega arith))
      (eq-or-lt_of_le a)

-- ---- cells and regions

pub cells_listed : (pool : List ℕ) (c : CellColumns) (i n : ℕ) → cells_said pool c i n ≡ listed (cell_said pool c) i n
unfolding cells_said
cells_listed pool c i zero = refl
cells_listed pool c i (suc n) = ap₂ ◌∷◌ refl (cells_listed pool c (suc i) n)

abbrev pub region_of : List ℕ → List ℕ → ℕ → CellCoordinate
region_of rows cols i = record { row = get_or rows i 0; col = get_or cols i 0 }

pub regions_listed : (rows cols : List ℕ) (i n : ℕ) → regions_from rows cols i n ≡ listed (region_of rows cols) i n
unfolding regions_from
regions_listed rows cols i zero = refl
regions_listed rows cols i (suc n) = ap₂ ◌∷◌ refl (regions_listed rows cols (suc i) n)

-- ---- a job

module _ (l : ℕ) (j : Job) where
  pub cells_length : length (job_said l j).cells ≡ cell_count j
  unfolding job_said
  cells_length = rw cells_listed (listed_length (cell_said j.pool j.cells) 0 (cell_count j))

  pub regions_length : length (job_said l j).regions ≡ region_count j
  unfolding job_said
  regions_length = rw regions_listed (listed_length (region_of j.region_rows j.region_cols) 0 (region_count j))
