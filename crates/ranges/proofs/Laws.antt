-- The cells in range from an index on, and their count: at an index what is counted and what is left come to all, so that each turn
-- takes one cell off what is left. Assumes nothing.
use Prim.Native.Nat.{ℕ, ◌+◌, ◌-◌, ◌≤◌, ◌<◌}
use mathlib.Core.Path.{◌≡◌, refl, sym, ap, ◌∙◌}
use mathlib.Core.Bool.{Bool, true, false}
use mathlib.Core.List.{List, [], ◌∷◌}
use native.Mathlib.Nat.{sub-zero, zero-add}
use native.Mathlib.Numerals.{one-add}
use native.Mathlib.Omega.{arith}
use mir.Val.{bool_byte}
use lib.ListN.{length}
use Rattle.model.specs.declared.Range.{Range}
use Rattle.model.specs.Sheet.{CellAt, CellColumns, cell_from, cells_from, in_range}
use Rattle.model.specs.Rule.{cells_in}
use Rattle.cells.specs.Columns.{cells_of, coordinate_at}
use Rattle.cells.proofs.Laws.{cells_left, cells_none_left}

-- ---- the cells in range from an index on

abbrev pub in_range_from : Range → CellColumns → ℕ → List CellAt
in_range_from range c i = cells_in range (cells_from c i (length c.rows - i))

abbrev pub in_range_at : Range → CellColumns → ℕ → Bool
in_range_at range c i = in_range range (coordinate_at c.rows c.cols i)

module _ (range : Range) (c : CellColumns) where
  pub left_none : (i : ℕ) → length c.rows ≤ i → in_range_from range c i ≡ []
  unfolding cells_in
  left_none i h = rw (cells_none_left c i (length c.rows) h)

  pub left_within : (i : ℕ) → i < length c.rows → in_range_at range c i ≡ true
      → in_range_from range c i ≡ cell_from c i ∷ in_range_from range c (i + 1)
  unfolding cells_in cell_from
  left_within i h e = rw (cells_left c i (length c.rows) h, e)

  pub left_outside : (i : ℕ) → i < length c.rows → in_range_at range c i ≡ false → in_range_from range c i ≡ in_range_from range c (i + 1)
  unfolding cells_in cell_from
  left_outside i h e = rw (cells_left c i (length c.rows) h, e)

-- ---- a count of the cells in range

byte_in : (range : Range) (c : CellColumns) (i : ℕ) (here : Bool) → i < length c.rows → in_range_at range c i ≡ here
    → length (in_range_from range c i) ≡ bool_byte here + length (in_range_from range c (i + 1))
byte_in range c i true h e = ap length (left_within range c i h e) ∙ sym (one-add _)
byte_in range c i false h e = ap length (left_outside range c i h e) ∙ sym (zero-add _)

pub byte_few : (b : Bool) → bool_byte b ≤ 1
byte_few true = omega arith
byte_few false = omega arith

-- all cells in range are the count so far and those left
pub record Tally (range : Range) (c : CellColumns) (count i : ℕ) : Type 0 where
  pub few : count ≤ i
  pub left : count + length (in_range_from range c i) ≡ length (cells_in range (cells_of c))

module _ {range : Range} {c : CellColumns} where
  pub tally_begun : Tally range c 0 0
  tally_begun = record { few = omega arith; left = rw (zero-add, sub-zero) }

  module _ {count i : ℕ} (v : Tally range c count i) where
    pub tally_few : i < length c.rows → count + bool_byte (in_range_at range c i) ≤ length c.rows
    tally_few h = omega (arith, v.few, byte_few (in_range_at range c i))

    pub tally_turn : i < length c.rows → Tally range c (count + bool_byte (in_range_at range c i)) (i + 1)
    tally_turn h =
        record {
          few = omega (arith, v.few, byte_few (in_range_at range c i));
          left = omega (arith, v.left, byte_in range c i _ h refl);
        }

    pub tally_ended : length c.rows ≤ i → count ≡ length (cells_in range (cells_of c))
    tally_ended h = omega (arith, rw (left_none range c i h) at v.left)
