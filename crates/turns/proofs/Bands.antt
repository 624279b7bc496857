-- The band of a range: inside of it a coordinate is in range just when its column is, outside of it none is. And rows whose coordinates
-- rise never fall. Assumes nothing.
use Prim.Native.Nat.{ℕ, zero, suc, ◌+◌, ◌-◌, ◌≤◌, ◌<◌}
use native.Mathlib.Omega.{arith}
use mathlib.Core.Path.{◌≡◌, refl, sym, ◌∙◌}
use mathlib.Core.Logic.{inl, inr}
use mathlib.Core.Bool.{Bool, true, false, and-false, true≢false}
use mathlib.Core.List.{List}
use mathlib.Core.Option.{none}
use lib.Dec.{leb}
use lib.ListN.{length, get_or}
use borrow.Author.Tests.{le-leb, lt-leb, leb-true, leb-false}
use Rattle.model.specs.declared.CellCoordinate.{CellCoordinate}
use Rattle.model.specs.declared.Range.{Range}
use Rattle.model.specs.Sheet.{in_range}
use Rattle.model.specs.Job.{first_fall}
use Rattle.laws.proofs.Rising.{Before, before_later}
use Rattle.cells.specs.Columns.{coordinate_at}
use Rattle.hits.specs.Hits.{column_in}
use Rattle.turns.specs.Bands.{RowsRise, BandOf}

-- ---- rows that never fall

before_row : (p q : CellCoordinate) → Before p q → p.row ≤ q.row
unfolding Before
before_row p q (inl a) = omega arith
before_row p q (inr a) = omega arith

pub rows_rise : (rows cols : List ℕ) → first_fall rows cols ≡ none → RowsRise rows
rows_rise rows cols rise i k a b = go (k - i) (omega arith)
  where
    go : (n : ℕ) → i + n ≡ k → get_or rows i 0 ≤ get_or rows k 0
    go zero e = let same : i ≡ k = omega arith in rw same (omega arith)
    go (suc n) e = rw (← e) (before_row _ _ (before_later rows cols rise i n (omega arith)))

-- ---- inside and outside

module _ {range : Range} {rows : List ℕ} {from to : ℕ} (band : BandOf range rows from to) (cols : List ℕ) (i : ℕ) where
  pub within_band : from ≤ i → i < to → in_range range (coordinate_at rows cols i) ≡ column_in range (get_or cols i 0)
  unfolding in_range column_in
  within_band a b =
      let row = band.inside i a b in
      rw (le-leb range.top (get_or rows i 0) row.0, le-leb (get_or rows i 0) range.bottom row.1)

  pub before_band : i < from → in_range range (coordinate_at rows cols i) ≡ false
  unfolding in_range
  before_band h = rw (lt-leb range.top (get_or rows i 0) (band.before i h))

  pub after_band : to ≤ i → i < length rows → in_range range (coordinate_at rows cols i) ≡ false
  unfolding in_range
  after_band a b = rw (lt-leb (get_or rows i 0) range.bottom (band.after i a b), and-false)

  pub in_range_band : i < length rows → in_range range (coordinate_at rows cols i) ≡ true → (from ≤ i) × (i < to)
  in_range_band h e = go (leb from i) refl (leb to i) refl
    where
      go : (x : Bool) → leb from i ≡ x → (y : Bool) → leb to i ≡ y → (from ≤ i) × (i < to)
      go false x y z = absurd (true≢false (sym e ∙ before_band (leb-false from i x)))
      go true x true z = absurd (true≢false (sym e ∙ after_band (leb-true to i z) h))
      go true x false z = (leb-true from i x, leb-false to i z)
