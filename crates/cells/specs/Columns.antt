-- Short names for contracts over the seven cell columns: the columns as one record, the cells that they hold, the place of the cell
-- at a coordinate, tables of places, and a sheet without regions. Assumes nothing.
use Rattle.std.specs.Prelude.{ℕ, zero, suc, cond, List, [], ltb, length, get_or, None, Some}
use Rattle.std.proofs.Math.Option.{Option, none, some}
use Rattle.model.specs.declared.Cell.{Cell}
use Rattle.model.specs.declared.CellCoordinate.{CellCoordinate}
use Rattle.model.specs.declared.ConditionalOperand.{ConditionalOperand}
use Rattle.model.specs.Options.{Reading, Referenced}
use Rattle.model.specs.declared.Span.{Span}
use Rattle.model.specs.Sheet.{CellAt, Sheet, CellColumns, same_coordinate, cell_from, cells_from}
use Rattle.model.specs.Readings.{numeric_of}
use Rattle.model.specs.References.{literal}

abbrev pub columns : List ℕ → List ℕ → List ℕ → List ℕ → List ℕ → List ℕ → List ℕ → CellColumns
columns rows cols kinds wraps nums ats lens =
    record { rows = rows; cols = cols; kinds = kinds; wraps = wraps; nums = nums; ats = ats; lens = lens }

-- as many cells as there are rows
abbrev pub cells_of : CellColumns → List CellAt
cells_of c = cells_from c 0 (length c.rows)

-- where the cell at an index stands
abbrev pub coordinate_at : List ℕ → List ℕ → ℕ → CellCoordinate
coordinate_at rows cols i = record { row = get_or rows i 0; col = get_or cols i 0 }

-- of the n cells from index i on the first that stands at a coordinate; past the last of them where none does
unfoldable pub place_from : List ℕ → List ℕ → CellCoordinate → ℕ → ℕ → ℕ
place_from rows cols at i zero = i
place_from rows cols at i (suc n) =
    let later = place_from rows cols at (suc i) n in
    cond (same_coordinate (coordinate_at rows cols i) at) i later

-- the place of the cell at a coordinate, or the number of rows
abbrev pub place_of : List ℕ → List ℕ → CellCoordinate → ℕ
place_of rows cols at = place_from rows cols at 0 (length rows)

-- ---- tables of places: an entry is the place of a cell plus one, 0 for none

-- the entry for a coordinate
unfoldable pub entry_at : List ℕ → List ℕ → CellCoordinate → ℕ
entry_at rows cols at = let place = place_of rows cols at in cond (ltb place (length rows)) (suc place) 0

-- the cell that an entry names
unfoldable pub cell_named : CellColumns → ℕ → Option Cell
cell_named c zero = none
cell_named c (suc place) = cond (ltb place (length c.rows)) (some (cell_from c place).cell) none

-- the entry for what a reference means
unfoldable pub entry_referenced : List ℕ → List ℕ → Referenced → ℕ
entry_referenced rows cols (Some at) = entry_at rows cols at
entry_referenced rows cols None = 0

-- what an operand reads as, by the entry for the cell that it means
unfoldable pub operand_named : CellColumns → ConditionalOperand → ℕ → Reading
operand_named c (ConditionalOperand.Literal x) entry = literal x
operand_named c (ConditionalOperand.Reference f) entry = numeric_of (cell_named c entry)
operand_named c ConditionalOperand.Unread entry = None

-- an operand needs of a sheet its cells, its pool and its name
abbrev pub sheet_with : List CellAt → List ℕ → Span → Sheet
sheet_with cells pool name = record { cells = cells; regions = []; pool = pool; name = name }
