-- Rows are parted: those above a row, and those not above it; two such parts make the band of a range. And the cells
-- in range are those from the band's begin up to its end whose columns are the range's: before it there is none, behind it none.
-- Assumes nothing.
use Prim.Native.Nat.{ℕ, zero, suc, ◌+◌, ◌-◌, ◌≤◌, ◌<◌}
use native.Mathlib.Nat.{add-zero, sub-zero, zero-add}
use native.Mathlib.Numerals.{add-one}
use native.Mathlib.Omega.{arith}
use mathlib.Core.Path.{◌≡◌, refl, sym, ap, ◌∙◌}
use mathlib.Core.Bool.{false}
use mathlib.Core.List.{List, []}
use mir.Val.{bool_byte}
use lib.ListN.{length, get_or}
use Rattle.model.specs.declared.Range.{Range}
use Rattle.model.specs.Sheet.{CellColumns}
use Rattle.model.specs.Rule.{cells_in}
use Rattle.cells.specs.Columns.{cells_of}
use Rattle.ranges.proofs.Laws.{in_range_from, in_range_at, left_none, left_outside, Tally, tally_turn}
use Rattle.hits.specs.Hits.{column_in}
use Rattle.turns.specs.Bands.{BandOf}
use Rattle.turns.proofs.Bands.{within_band, before_band, after_band}

-- ---- two parts of rows

-- the rows before `r` are above `row`, those from there on are not
abbrev FirstFrom : List ℕ → ℕ → ℕ → Type 0
FirstFrom rows row r =
    ((i : ℕ) → i < r → get_or rows i 0 < row) × (((i : ℕ) → r ≤ i → i < length rows → row ≤ get_or rows i 0) × (r ≤ length rows))

-- from the first row not above the range up to the first that is below it
module _ (range : Range) (rows : List ℕ) (from end : ℕ) (first : FirstFrom rows range.top from)
    (last : FirstFrom rows (range.bottom + 1) end) where
  pub band_made : from ≤ end → BandOf range rows from end
  band_made h =
      record {
        ordered = h;
        within = last.1.1;
        before = first.0;
        inside = λ i a b. (first.1.0 i a (omega (arith, last.1.1)), omega (arith, last.0 i b));
        after = λ i a b. omega (arith, last.1.0 i a b);
      }

  pub band_empty : end < from → BandOf range rows from from
  band_empty h =
      record {
        ordered = omega arith;
        within = first.1.1;
        before = first.0;
        inside = λ i a b. absurd (omega arith);
        after = λ i a b. omega (arith, last.1.0 i (omega arith) b);
      }

-- ---- the cells in range

module _ {range : Range} (c : CellColumns) {from to : ℕ} (band : BandOf range c.rows from to) where
  -- before the band none is in range
  passed : (i : ℕ) → i ≤ from → in_range_from range c 0 ≡ in_range_from range c i
  passed zero h = refl
  passed (suc i) h =
      passed i (omega arith)
      ∙ left_outside range c i (omega (arith, band.ordered, band.within)) (before_band band c.cols i (omega arith))
      ∙ rw add-one

  pub band_begins : cells_in range (cells_of c) ≡ in_range_from range c from
  band_begins = rw (sub-zero (length c.rows)) at (passed from (omega arith))

  -- behind it none is
  behind : (n i : ℕ) → i + n ≡ length c.rows → to ≤ i → in_range_from range c i ≡ []
  behind zero i e h = left_none range c i (omega arith)
  behind (suc n) i e h =
      left_outside range c i (omega arith) (after_band band c.cols i h (omega arith)) ∙ behind n (i + 1) (omega arith) (omega arith)

  pub band_ends : in_range_from range c to ≡ []
  band_ends = behind (length c.rows - to) to (omega (arith, band.within)) (omega arith)

  -- inside it the columns tell
  pub band_at : (i : ℕ) → from ≤ i → i < to → in_range_at range c i ≡ column_in range (get_or c.cols i 0)
  band_at i a b = within_band band c.cols i a b

  -- where the columns are not the range's none is
  pub band_skips : (m i : ℕ) → from ≤ i → i + m ≤ to → ((k : ℕ) → i ≤ k → k < i + m → column_in range (get_or c.cols k 0) ≡ false)
      → in_range_from range c i ≡ in_range_from range c (i + m)
  band_skips zero i a b out = rw (add-zero i)
  band_skips (suc m) i a b out =
      let e : i + suc m ≡ i + 1 + m = omega arith in
      rw e
      (left_outside range c i (omega (arith, band.within)) (band_at i a (omega arith) ∙ out i (omega arith) (omega arith))
      ∙ band_skips m (i + 1) (omega arith) (omega arith) (λ k p q. out k (omega arith) (omega arith)))

  -- ---- a count of them

  pub tally_from : Tally range c 0 from
  tally_from = record { few = omega arith; left = rw zero-add (ap length (sym band_begins)) }

  pub tally_within : {count i : ℕ} → Tally range c count i → from ≤ i → i < to
      → Tally range c (count + bool_byte (column_in range (get_or c.cols i 0))) (i + 1)
  tally_within {count} {i} v a b = rw (← band_at i a b) (tally_turn v (omega (arith, band.within)))

  pub tally_to : {count i : ℕ} → Tally range c count i → i ≡ to → count ≡ length (cells_in range (cells_of c))
  tally_to v e = omega (arith, rw (e, band_ends) at v.left)
