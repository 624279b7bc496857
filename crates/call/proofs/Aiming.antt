-- The cell that a reference to this sheet means from a target, by the numbers of its row and its column. Outside the grid these are numbers
-- that no cell has. A reference to another sheet reads as nothing, and one whose own place is the range's first cell means the target.
-- Assumes nothing.
use Rattle.std.specs.Prelude.{Some, None}
use Prim.Native.Nat.{ℕ, ◌+◌, ◌-◌, ◌≤◌, ◌<◌}
use native.Mathlib.Omega.{arith}
use mathlib.Core.Path.{◌≡◌, refl, sym, ap, ◌∙◌}
use mathlib.Core.Bool.{Bool, true, false, not, and-false, false≢true, ◌&&◌, ◌||◌}
use mathlib.Core.List.{List}
use mathlib.Core.Option.{none}
use lib.Dec.{leb, ltb, eqb}
use lib.Ieee.{Float, nan}
use lib.ListN.{length, get_or}
use borrow.Author.Tests.{le-leb, lt-leb, leb-true, eqb-true, ne_eqb}
use Rattle.model.specs.declared.A1Reference.{A1Reference}
use Rattle.model.specs.Options.{Axis}
use Rattle.model.specs.declared.CellCoordinate.{CellCoordinate}
use Rattle.model.specs.declared.ConditionalOperand.{ConditionalOperand as Operand}
use Rattle.model.specs.declared.Range.{Range}
use Rattle.model.specs.declared.Span.{Span}
use Rattle.model.specs.Sheet.{Sheet, CellColumns, max_row, max_col, same_coordinate, in_range, within_grid}
use Rattle.model.specs.Readings.{numeric_at}
use Rattle.model.specs.References.{
  offset_axis,
  axis,
  names_sheet,
  joined,
  reference_coordinate,
  numeric_referenced,
  resolved,
}
use Rattle.model.specs.Job.{first_fall}
use Rattle.cells.specs.Columns.{cells_of, coordinate_at, entry_at, entry_referenced, sheet_with}
use Rattle.hits.specs.Said.{as_float}
use Rattle.laws.proofs.Covered.{and_true}
use Rattle.call.specs.Tables.{number_named, Numbered, axis_number, means_target}
use Rattle.call.proofs.Seeking.{entry_found, entry_missed}
use Rattle.call.proofs.Meaning.{number_referenced}

-- ---- an axis that is not absolute, from a target that is not before the origin

module _ (target reference origin most : ℕ) (h : origin ≤ target) where
  pub axis_within : target - origin + reference ≤ most
      → target - origin + reference ≡ axis_number (axis false target reference origin most)
  unfolding axis offset_axis axis_number
  axis_within w =
      rw (le-leb origin (target + reference) (omega arith), le-leb (target + reference - origin) most (omega arith)) (omega arith)

  pub axis_past : most < target - origin + reference → 4_294_967_296 ≡ axis_number (axis false target reference origin most)
  unfolding axis offset_axis axis_number
  axis_past w = rw (lt-leb (target + reference - origin) most (omega arith), and-false)

-- ---- the cell in a row and a column

module _ (rows cols : List ℕ) (row col : ℕ) where
  pub entry_row_past : ((k : ℕ) → get_or rows k 0 < row) → entry_at rows cols (record { row = row; col = col }) ≡ 0
  unfolding same_coordinate
  entry_row_past past = entry_missed rows cols _ (λ k h. rw (ne_eqb (get_or rows k 0) row (λ e. omega (arith, past k))))

  pub entry_col_past : ((k : ℕ) → get_or cols k 0 < col) → entry_at rows cols (record { row = row; col = col }) ≡ 0
  unfolding same_coordinate
  entry_col_past past =
      entry_missed rows cols _ (λ k h. rw (ne_eqb (get_or cols k 0) col (λ e. omega (arith, past k)), and-false))

module _ (rows cols : List ℕ) (small : (k : ℕ) → get_or rows k 0 < 4_294_967_296) (narrow : (k : ℕ) → get_or cols k 0 < 65_536) where
  -- of two axes it is where they meet
  entry_joined : (a b : Axis)
      → entry_at rows cols (record { row = axis_number a; col = axis_number b }) ≡ entry_referenced rows cols (joined a b)
  unfolding axis_number joined entry_referenced
  entry_joined (Some row) (Some col) = refl
  entry_joined (Some row) None = entry_col_past rows cols row _ (λ k. omega (arith, narrow k))
  entry_joined None b = entry_row_past rows cols _ _ small

-- the number of a cell that stands at a coordinate
pub number_standing : (rows cols : List ℕ) (floats : List Float) → first_fall rows cols ≡ none → (at : CellCoordinate) (i : ℕ)
    → (ltb i (length rows) && same_coordinate (coordinate_at rows cols i) at) ≡ true
    → get_or floats i nan ≡ number_named floats (entry_at rows cols at)
unfolding number_named
number_standing rows cols floats rise at i s = rw (entry_found rows cols at rise i s)

-- the row and the column that a reference to this sheet means
abbrev pub aimed_at : A1Reference → Range → CellCoordinate → CellCoordinate
aimed_at f range target =
    record {
      row = axis_number (axis f.row_absolute target.row f.row range.top max_row);
      col = axis_number (axis f.col_absolute target.col f.col range.left max_col);
    }

module _ (pool : List ℕ) (name : Span) (range : Range) (target : CellCoordinate) (f : A1Reference)
    (named : names_sheet pool name f.sheet ≡ true) where
  referenced_here : reference_coordinate pool name range target f
      ≡ joined (axis f.row_absolute target.row f.row range.top max_row)
      (axis f.col_absolute target.col f.col range.left max_col)
  unfolding reference_coordinate
  referenced_here = rw named

  -- the number of the cell there is the one that the reference reads as
  pub number_aimed : (c : CellColumns) (floats : List Float) → Numbered c floats → length c.rows ≡ length floats
      → ((k : ℕ) → get_or c.rows k 0 < 4_294_967_296) → ((k : ℕ) → get_or c.cols k 0 < 65_536)
      → number_named floats (entry_at c.rows c.cols (aimed_at f range target))
      ≡ as_float (resolved (sheet_with (cells_of c) pool name) range target (Operand.Reference f))
  number_aimed c floats numbered same small narrow =
      ap (number_named floats)
      (entry_joined c.rows c.cols small narrow _ _ ∙ ap (entry_referenced c.rows c.cols) (sym referenced_here))
      ∙ number_referenced c floats numbered same pool name range target f

-- ---- no cell of this sheet, and the target itself

-- an offset of nothing
same_axis : (at origin most : ℕ) → at ≤ most → axis false at origin origin most ≡ Some at
unfolding axis offset_axis
same_axis at origin most h =
    let value : at + origin - origin ≡ at = omega arith in
    rw (le-leb origin (at + origin) (omega arith), value, le-leb at most h)

pub neither : (a b : Bool) → not (a || b) ≡ true → (a ≡ false) × (b ≡ false)
neither true b e = absurd (false≢true e)
neither false true e = absurd (false≢true e)
neither false false e = (refl, refl)

-- what is in range is within the grid if the range is
in_grid : (range : Range) (at : CellCoordinate) → within_grid range ≡ true → in_range range at ≡ true
    → (at.row ≤ max_row) × (at.col ≤ max_col)
unfolding within_grid in_range
in_grid range at g m =
    let grid = (and_true (leb range.bottom max_row) (leb range.right max_col)).0 g in
    let top = leb range.top at.row in
    let rows = top && leb at.row range.bottom in
    let right = (and_true (rows && leb range.left at.col) (leb at.col range.right)).0 m in
    let left = (and_true rows (leb range.left at.col)).0 right.0 in
    let bottom = (and_true top (leb at.row range.bottom)).0 left.0 in (
      omega (arith, leb-true at.row range.bottom bottom.1, leb-true range.bottom max_row grid.0),
      omega (arith, leb-true at.col range.right right.1, leb-true range.right max_col grid.1),
    )

module _ (s : Sheet) (range : Range) (target : CellCoordinate) (f : A1Reference) where
  pub elsewhere_nothing : names_sheet s.pool s.name f.sheet ≡ false
      → nan ≡ as_float (resolved s range target (Operand.Reference f))
  unfolding resolved reference_coordinate numeric_referenced as_float
  elsewhere_nothing other = rw other

  pub target_itself : names_sheet s.pool s.name f.sheet ≡ true → means_target f range ≡ true → in_range range target ≡ true
      → numeric_at s.cells target ≡ resolved s range target (Operand.Reference f)
  unfolding means_target resolved numeric_referenced joined
  target_itself named means m =
      let grid = (and_true _ (within_grid range)).0 means in
      let col = (and_true _ (eqb f.col range.left)).0 grid.0 in
      let row = (and_true _ (eqb f.row range.top)).0 col.0 in
      let free = neither f.row_absolute f.col_absolute row.0 in
      let fits = in_grid range target grid.1 m in
      rw (
        referenced_here s.pool s.name range target f named,
        free.0,
        free.1,
        eqb-true f.row range.top row.1,
        eqb-true f.col range.left col.1,
        same_axis target.row range.top max_row fits.0,
        same_axis target.col range.left max_col fits.1,
      )
