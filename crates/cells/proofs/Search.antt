-- The search for the cell at a coordinate: at an index, the place among what is left is the place among all. Assumes nothing.
use Prim.Native.Nat.{ℕ, suc, ◌+◌, ◌-◌, ◌≤◌, ◌<◌}
use mathlib.Core.Path.{◌≡◌}
use mathlib.Core.Bool.{Bool, true, false, cond}
use mathlib.Core.List.{List}
use native.Mathlib.Nat.{sub-zero}
use native.Mathlib.Numerals.{add-one}
use native.Mathlib.Omega.{arith}
use lib.ListN.{length}
use Rattle.model.specs.declared.CellCoordinate.{CellCoordinate}
use Rattle.model.specs.Sheet.{same_coordinate}
use Rattle.cells.specs.Columns.{coordinate_at, place_from, place_of}

pub record Sought (rows cols : List ℕ) (at : CellCoordinate) (i : ℕ) : Type 0 where
  pub within : i ≤ length rows
  pub left : place_from rows cols at i (length rows - i) ≡ place_of rows cols at

module _ {rows cols : List ℕ} {at : CellCoordinate} where
  pub sought_begun : Sought rows cols at 0
  sought_begun = record { within = omega arith; left = rw sub-zero }

  module _ {i : ℕ} (v : Sought rows cols at i) where
    -- the place is here or later
    here_or_later : {same : Bool} → i < length rows → same_coordinate (coordinate_at rows cols i) at ≡ same
        → cond same i (place_from rows cols at (i + 1) (length rows - (i + 1))) ≡ place_of rows cols at
    unfolding place_from
    here_or_later h e =
        let more : length rows - i ≡ suc (length rows - (i + 1)) = omega arith in
        rw (more, e, ← add-one i) at v.left

    pub sought_passed : i < length rows → same_coordinate (coordinate_at rows cols i) at ≡ false → Sought rows cols at (i + 1)
    sought_passed h e = record { within = omega arith; left = here_or_later h e }

    pub sought_found : i < length rows → same_coordinate (coordinate_at rows cols i) at ≡ true → i ≡ place_of rows cols at
    sought_found h e = here_or_later h e

    pub sought_ended : length rows ≤ i → i ≡ place_of rows cols at
    unfolding place_from
    sought_ended h = let all : length rows - i ≡ 0 = omega arith in rw all at v.left
