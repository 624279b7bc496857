-- The numbers of a job's cells: what an entry of a table of places names, and what the regions' cells read as. Assumes nothing.
use Prim.Native.Nat.{ℕ, zero, suc, ◌-◌, ◌≤◌, ◌<◌}
use native.Mathlib.Omega.{arith}
use mathlib.Core.Path.{◌≡◌, refl, ap, subst, ◌∙◌}
use mathlib.Core.Bool.{Bool, true, false, cond}
use mathlib.Core.List.{List}
use mathlib.Core.Option.{none, some}
use lib.Dec.{ltb}
use lib.Ieee.{Float, nan}
use lib.ListN.{length, get_or, get_or-eq_default}
use borrow.Author.Tests.{ltb-true, ltb-false}
use Rattle.model.specs.Sheet.{CellColumns, cell_from}
use Rattle.model.specs.Readings.{numeric_of, numeric_at}
use Rattle.cells.specs.Columns.{cells_of, coordinate_at, cell_named}
use Rattle.cells.proofs.Laws.{entry_named}
use Rattle.hits.specs.Said.{as_float, reading_of}
use Rattle.hits.specs.Hits.{number_at}
use Rattle.turns.proofs.Known.{numeric_at_back}
use Rattle.call.specs.Tables.{number_named, Numbered, Followed, Valued}

-- ---- the number that an entry names

pub number_some : (floats : List Float) (entry : ℕ) → 0 < entry → number_named floats entry ≡ get_or floats (entry - 1) nan
unfolding number_named
number_some floats zero h = absurd (omega arith)
number_some floats (suc place) h = ap (λ (i : ℕ). get_or floats i nan) (omega arith)

-- it is that of the cell
pub number_of_cell : (c : CellColumns) (floats : List Float) → Numbered c floats → length c.rows ≡ length floats
    → (entry : ℕ) → number_named floats entry ≡ as_float (numeric_of (cell_named c entry))
unfolding number_named cell_named as_float
number_of_cell c floats numbered same zero = refl
number_of_cell c floats numbered same (suc place) = go (ltb place (length c.rows)) refl
  where
    go : (inside : Bool) → ltb place (length c.rows) ≡ inside
        → get_or floats place nan ≡ as_float (numeric_of (cond inside (some (cell_from c place).cell) none))
    go true e = numbered place (ltb-true place _ e)
    go false e = get_or-eq_default floats nan (subst (λ (n : ℕ). n ≤ place) same (ltb-false place _ e))

-- ---- the regions' cells

module _ (c : CellColumns) (rows cols : List ℕ) where
  pub values_of : (places : List ℕ) (floats values : List Float) → Followed c rows cols places → Numbered c floats
      → length c.rows ≡ length floats
      → ((i : ℕ) → i < length rows → get_or values i nan ≡ number_named floats (get_or places i 0)) → Valued c rows cols values
  unfolding numeric_at
  values_of places floats values followed numbered same named i h =
      named i h ∙ ap (number_named floats) (followed i h) ∙ number_of_cell c floats numbered same _
      ∙ ap (λ x. as_float (numeric_of x)) (entry_named c (coordinate_at rows cols i))

  -- a region's number reads as its cell does
  pub valued_at : (values : List Float) → Valued c rows cols values
      → (i : ℕ) → i < length rows → number_at values i ≡ numeric_at (cells_of c) (coordinate_at rows cols i)
  valued_at values valued i h = ap reading_of (valued i h) ∙ numeric_at_back (cells_of c) (coordinate_at rows cols i)
