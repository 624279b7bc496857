-- The band of a range among rows that rise: the indices whose rows are the range's, one after the other. What stands at another index is
-- out of range, whatever its column. Assumes nothing.
use Rattle.std.specs.Prelude.{ℕ, ◌≤◌, ◌<◌, List, length, get_or}
use Rattle.model.specs.declared.Range.{Range}

-- no row is above the one before it
abbrev pub RowsRise : List ℕ → Type 0
RowsRise rows = (i k : ℕ) → i ≤ k → k < length rows → get_or rows i 0 ≤ get_or rows k 0

-- the indices from `from` up to `to`
pub record BandOf (range : Range) (rows : List ℕ) (from to : ℕ) : Type 0 where
  pub ordered : from ≤ to
  pub within : to ≤ length rows
  pub before : (i : ℕ) → i < from → get_or rows i 0 < range.top
  pub inside : (i : ℕ) → from ≤ i → i < to → (range.top ≤ get_or rows i 0) × (get_or rows i 0 ≤ range.bottom)
  pub after : (i : ℕ) → to ≤ i → i < length rows → range.bottom < get_or rows i 0
