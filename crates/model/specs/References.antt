-- References: which cell an operand means from a region, and the number that it reads as (document 01, 'References').
-- Assumes nothing.
use Rattle.std.specs.Prelude.{ℕ, ◌+◌, ◌-◌, Bool, true, false, cond, not, ◌&&◌, ◌||◌, List, leb, Float, Some, None}
use Rattle.model.specs.declared.Span.{Span}
use Rattle.model.specs.declared.CellCoordinate.{CellCoordinate}
use Rattle.model.specs.declared.Range.{Range}
use Rattle.model.specs.Options.{SheetName, Axis, Referenced, Reading}
use Rattle.model.specs.declared.A1Reference.{A1Reference}
use Rattle.model.specs.declared.ConditionalOperand.{ConditionalOperand}
use Rattle.model.specs.declared.ConditionalOperand.TheVariants.{Literal, Reference, Unread}
use Rattle.model.specs.Sheet.{Sheet, max_row, max_col, text_at}
use Rattle.model.specs.Readings.{finite, numeric_at, ascii, same_bytes, same_letters}

-- target + reference - origin, accepted from 0 to the maximum
unfoldable pub offset_axis : ℕ → ℕ → ℕ → ℕ → Axis
offset_axis target reference origin maximum =
    let value = target + reference - origin in
    cond (leb origin (target + reference) && leb value maximum) (Some value) None

-- an absolute axis is unchecked
unfoldable pub axis : Bool → ℕ → ℕ → ℕ → ℕ → Axis
axis true target reference origin maximum = Some reference
axis false target reference origin maximum = offset_axis target reference origin maximum

-- equal bytes, or both ASCII and equal without regard to case
unfoldable pub same_name : List ℕ → List ℕ → Bool
same_name a b = same_bytes a b || (ascii a && ascii b && same_letters a b)

-- whether a reference's name is the sheet's, both as they stand in the pool
unfoldable pub names_sheet : List ℕ → Span → SheetName → Bool
names_sheet pool sheet None = true
names_sheet pool sheet (Some t) = same_name (text_at pool t) (text_at pool sheet)

unfoldable pub joined : Axis → Axis → Referenced
joined (Some row) (Some col) = Some (record { row = row; col = col })
joined (Some row) None = None
joined None col = None

-- the cell that a reference means from a target, on the sheet of this pool and name; the origin is the range's first cell
unfoldable pub reference_coordinate : List ℕ → Span → Range → CellCoordinate → A1Reference → Referenced
reference_coordinate pool sheet r target f =
    cond (names_sheet pool sheet f.sheet)
    (joined (axis f.row_absolute target.row f.row r.top max_row)
    (axis f.col_absolute target.col f.col r.left max_col))
    None

unfoldable pub numeric_referenced : Sheet → Referenced → Reading
numeric_referenced s (Some at) = numeric_at s.cells at
numeric_referenced s None = None

unfoldable pub literal : Float → Reading
literal x = cond (finite x) (Some x) None

-- what an operand reads as from a target
unfoldable pub resolved : Sheet → Range → CellCoordinate → ConditionalOperand → Reading
resolved s r target (Literal x) = literal x
resolved s r target (Reference f) = numeric_referenced s (reference_coordinate s.pool s.name r target f)
resolved s r target Unread = None

-- a non-finite literal counts as unread
unfoldable pub unread : ConditionalOperand → Bool
unread (Literal x) = not (finite x)
unread (Reference f) = false
unread Unread = true
