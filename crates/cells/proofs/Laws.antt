-- Cells from their columns: how many, what is left of them from an index on, and the cell that an entry of a table of places names.
-- Assumes nothing.
use Prim.Native.Nat.{ℕ, zero, suc, ◌+◌, ◌-◌, ◌≤◌, ◌<◌}
use mathlib.Core.Path.{◌≡◌, refl, sym, ap, ◌∙◌}
use mathlib.Core.Bool.{Bool, true, false, cond}
use mathlib.Core.List.{[], ◌∷◌}
use mathlib.Core.Option.{Option, none, some}
use native.Mathlib.Nat.{zero-add}
use native.Mathlib.Numerals.{add-one}
use native.Mathlib.Omega.{arith}
use lib.Dec.{ltb}
use lib.ListN.{length}
use borrow.Author.Tests.{lt-ltb, le-ltb}
use Rattle.model.specs.declared.Cell.{Cell}
use Rattle.model.specs.declared.CellCoordinate.{CellCoordinate}
use Rattle.model.specs.Sheet.{CellColumns, same_coordinate, cell_at, cell_from, cells_from}
use Rattle.cells.specs.Columns.{cells_of, place_from, place_of, entry_at, cell_named}

module _ (c : CellColumns) where
  cells_next : (i n : ℕ) → cells_from c i (suc n) ≡ cell_from c i ∷ cells_from c (suc i) n
  unfolding cells_from
  cells_next i n = refl

  pub cells_length : (i n : ℕ) → length (cells_from c i n) ≡ n
  unfolding cells_from
  cells_length i zero = refl
  cells_length i (suc n) = ap suc (cells_length (suc i) n)

  -- what a loop at i has left of n cells
  pub cells_left : (i n : ℕ) → i < n → cells_from c i (n - i) ≡ cell_from c i ∷ cells_from c (i + 1) (n - (i + 1))
  cells_left i n h = let more : n - i ≡ suc (n - (i + 1)) = omega arith in rw (more, add-one) (cells_next i _)

  pub cells_none_left : (i n : ℕ) → n ≤ i → cells_from c i (n - i) ≡ []
  unfolding cells_from
  cells_none_left i n h = let all : n - i ≡ 0 = omega arith in rw all

  -- ---- the cell at a coordinate

  -- the cell at a place, none at `end` and past it
  abbrev cell_below : ℕ → ℕ → Option Cell
  cell_below end p = cond (ltb p end) (some (cell_from c p).cell) none

  cell_or_later : (here : Bool) (i end p : ℕ) {later : Option Cell} → i < end → later ≡ cell_below end p
      → cond here (some (cell_from c i).cell) later ≡ cell_below end (cond here i p)
  cell_or_later true i end p h e = rw (lt-ltb i end h)
  cell_or_later false i end p h e = e

  cell_by_place : (at : CellCoordinate) (i n : ℕ) → cell_at (cells_from c i n) at ≡ cell_below (i + n) (place_from c.rows c.cols at i n)
  unfolding cell_at cells_from place_from cell_from
  cell_by_place at i zero = rw (le-ltb i (i + 0) (omega arith))
  cell_by_place at i (suc n) =
      cell_or_later (same_coordinate (cell_from c i).at at) i (i + suc n) (place_from c.rows c.cols at (suc i) n) (omega arith)
      (cell_by_place at (suc i) n ∙ ap (λ end. cell_below end (place_from c.rows c.cols at (suc i) n)) (omega arith))

  -- ---- tables of places

  below_named : (place : ℕ) (inside : Bool) → ltb place (length c.rows) ≡ inside
      → cell_named c (cond inside (suc place) 0) ≡ cell_below (length c.rows) place
  unfolding cell_named
  below_named place true e = refl
  below_named place false e = rw e

  -- the entry for a coordinate names the cell there
  pub entry_named : (at : CellCoordinate) → cell_named c (entry_at c.rows c.cols at) ≡ cell_at (cells_of c) at
  unfolding entry_at
  entry_named at =
      below_named (place_of c.rows c.cols at) (ltb (place_of c.rows c.cols at) (length c.rows)) refl
      ∙ sym (cell_by_place at 0 (length c.rows) ∙ rw zero-add)

  module _ {entry i : ℕ} (one : i ≡ entry - 1) (some-entry : 0 < entry) where
    named_suc : suc i ≡ entry
    named_suc = omega (arith, one, some-entry)

    pub named_found : i < length c.rows → cell_named c entry ≡ some (cell_from c i).cell
    unfolding cell_named
    named_found h = rw (← named_suc) (rw (lt-ltb i _ h))

  pub named_none : {entry : ℕ} → entry ≡ 0 → cell_named c entry ≡ none
  unfolding cell_named
  named_none e = rw e
