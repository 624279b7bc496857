-- A covered range by codes: no cell in range has code 0, and there are as many cells in range as coordinates. And in a covered range the
-- cell of each region has a key, so that its code stands in range as often as its key. Assumes nothing.
use Prim.Native.Nat.{ℕ, zero, suc, ◌+◌, ◌≤◌, ◌<◌}
use native.Mathlib.Nat.{zero-add}
use native.Mathlib.Omega.{arith}
use mathlib.Core.Path.{◌≡◌, refl, sym, ap, ◌∙◌}
use mathlib.Core.Logic.{◌↔◌}
use mathlib.Core.Bool.{Bool, true, false, not, ◌&&◌, not-eq-not, true≢false}
use mathlib.Core.List.{List}
use mathlib.Core.Option.{none}
use lib.Dec.{leb, eqb}
use lib.ListN.{length, get_or}
use borrow.Author.Tests.{leb-true, eqb-true, eq-eqb}
use Rattle.model.specs.declared.CellCoordinate.{CellCoordinate}
use Rattle.model.specs.declared.Range.{Range}
use Rattle.model.specs.declared.Span.{Span}
use Rattle.model.specs.Sheet.{Sheet, CellColumns, cell_from, cells_from, in_range, upright, area}
use Rattle.model.specs.Readings.{has_key, key_of, key_at}
use Rattle.model.specs.Job.{first_fall}
use Rattle.model.specs.Rule.{cells_in, keys, times, covered}
use Rattle.laws.proofs.Covered.{and_true, covered_true}
use Rattle.laws.proofs.Rising.{before_rises, before_later}
use Rattle.laws.proofs.Apart.{Rising}
use Rattle.laws.proofs.Counted.{keys_in, covered_counted}
use Rattle.cells.specs.Columns.{cells_of, coordinate_at, entry_at}
use Rattle.cells.proofs.Laws.{entry_named, named_found, named_none}
use Rattle.cells.proofs.Standing.{entry_stands}
use Rattle.ranges.specs.Turns.{sheet_from}
use Rattle.call.specs.Tables.{Coded, code_named, coded_from}
use Rattle.call.proofs.Seeking.{stands, entry_found}
use Rattle.call.proofs.Counting.{coded_none}
use Rattle.call.proofs.Coding.{key_of_cell, code_none, coded_times, coded_rest}

-- each coordinate of a covered range has a key
keyed_within : (s : Sheet) (range : Range) → upright range ≡ true → covered s range ≡ true → (at : CellCoordinate)
    → in_range range at ≡ true → has_key (key_at s.pool s.cells at) ≡ true
unfolding in_range
keyed_within s range up full at e =
    let top = leb range.top at.row in
    let bottom = leb at.row range.bottom in
    let left = leb range.left at.col in
    let right = leb at.col range.right in
    let three = (and_true (top && bottom && left) right).0 e in
    let two = (and_true (top && bottom) left).0 three.0 in
    let one = (and_true top bottom).0 two.0 in
    (covered_true s range up).0 full at.row at.col (leb-true _ _ one.0) (leb-true _ _ one.1) (leb-true _ _ two.1)
    (leb-true _ _ three.1)

-- ---- the cell at a coordinate

module _ (pool : List ℕ) (c : CellColumns) (at : CellCoordinate) where
  key_named : (place : ℕ) → entry_at c.rows c.cols at ≡ suc place → place < length c.rows
      → key_at pool (cells_of c) at ≡ key_of_cell pool c place
  unfolding key_at
  key_named place e h =
      ap (key_of pool) (sym (entry_named c at) ∙ named_found c (rw e (omega arith)) (omega (arith, e)) h)

  key_unnamed : entry_at c.rows c.cols at ≡ 0 → has_key (key_at pool (cells_of c) at) ≡ false
  unfolding key_at has_key
  key_unnamed e = rw (sym (entry_named c at) ∙ named_none c e)

module _ (c : CellColumns) (rise : first_fall c.rows c.cols ≡ none) where
  cells_rising : (i n : ℕ) → i + n ≤ length c.rows → Rising (cells_from c i n)
  unfolding cells_from cell_from
  cells_rising i zero h = tt
  cells_rising i (suc zero) h = tt
  cells_rising i (suc (suc n)) h =
      let next : i + 1 ≡ suc i = omega arith in
      (before_rises _ _ (rw next at (before_later c.rows c.cols rise i 0 (omega arith))), cells_rising (suc i) (suc n) (omega arith))

  module _ (pool codes : List ℕ) (coded : Coded pool c codes) (few : length c.rows ≤ 1024) (range : Range) (up : upright range ≡ true)
      (regions : List CellCoordinate) (name : Span) where
    abbrev sheet : Sheet
    sheet = sheet_from (cells_of c) regions pool name

    abbrev coding : ℕ → ℕ
    coding code = coded_from range c.rows c.cols codes code 0 (length c.rows)

    -- in a covered range each cell has a key
    covered_coded : covered sheet range ≡ true → coding 0 ≡ 0
    covered_coded full = coded_none range c.rows c.cols codes 0 0 (length c.rows) keyed
      where
        keyed : (j : ℕ) → 0 ≤ j → j < 0 + length c.rows → in_range range (coordinate_at c.rows c.cols j) ≡ true
            → eqb (get_or codes j 0) 0 ≡ false
        keyed j a b e =
            let at = coordinate_at c.rows c.cols j in
            let h : j < length c.rows = omega arith in
            let entry = entry_found c.rows c.cols at rise j ((stands c.rows c.cols at j).1 (h, refl)) in
            code_none pool c codes coded few j h
            ∙ ap (λ k. not (has_key k)) (sym (key_named pool c at j entry h))
            ∙ ap not (keyed_within sheet range up full at e)

    -- a cell without a key
    pub uncovered : (coding 0 ≡ 0 → ⊥) → false ≡ covered sheet range
    uncovered keyless = sym (not-eq-not.0 (λ full. keyless (covered_coded full)))

    -- as many cells as coordinates, if each has a key
    pub covered_by_count : coding 0 ≡ 0 → eqb (length (cells_in range (cells_of c))) (area range) ≡ covered sheet range
    covered_by_count all = go (covered sheet range) refl
      where
        counted : keys_in pool range (cells_of c) ≡ length (cells_in range (cells_of c))
        counted = rw (all, zero-add) at (coded_rest pool c codes coded few range 0 (length c.rows) (omega arith))

        keyed : (covered sheet range ≡ true) ↔ (keys_in pool range (cells_of c) ≡ area range)
        keyed = covered_counted sheet range (cells_rising 0 (length c.rows) (omega arith)) up

        go : (full : Bool) → covered sheet range ≡ full → eqb (length (cells_in range (cells_of c))) (area range) ≡ full
        go true e = eq-eqb _ _ (sym counted ∙ keyed.0 e)
        go false e = not-eq-not.0 (λ same. true≢false (sym (keyed.1 (counted ∙ eqb-true _ _ same)) ∙ e))

    -- the code of the cell at a coordinate in a covered range stands there as often as the key
    pub code_found : covered sheet range ≡ true → (at : CellCoordinate) → in_range range at ≡ true
        → coding (code_named codes (entry_at c.rows c.cols at))
        ≡ times pool (key_at pool (cells_of c) at) (keys pool (cells_in range (cells_of c)))
    unfolding code_named
    code_found full at e = go (entry_at c.rows c.cols at) refl
      where
        keyed : has_key (key_at pool (cells_of c) at) ≡ true
        keyed = keyed_within sheet range up full at e

        go : (entry : ℕ) → entry_at c.rows c.cols at ≡ entry
            → coding (code_named codes entry) ≡ times pool (key_at pool (cells_of c) at) (keys pool (cells_in range (cells_of c)))
        go zero named = absurd (true≢false (sym keyed ∙ key_unnamed pool c at named))
        go (suc place) named =
            let h = (entry_stands c.rows c.cols at place named).0 in
            let same = key_named pool c at place named h in
            rw same (coded_times pool c codes coded few range place h (rw same at keyed) 0 (length c.rows) (omega arith))
