-- The lent sheet: its columns, the cells and regions that they hold, and ranges of cells (document 01, 'The lent sheet').
-- Assumes nothing.
use Rattle.std.specs.Prelude.{ℕ, zero, suc, ◌-◌, ◌*◌, Bool, cond, ◌&&◌, List, [], ◌∷◌, leb, eqb, take, drop, get_or}
use Rattle.std.proofs.Math.Option.{Option, none, some}
use Rattle.std.specs.Float.{binary64}
use Rattle.std.specs.Float.Ieee.{of_bits}
use Rattle.model.specs.declared.Span.{Span}
use Rattle.model.specs.declared.CellValue.{CellValue}
use Rattle.model.specs.declared.Cell.{Cell}
use Rattle.model.specs.declared.CellCoordinate.{CellCoordinate}
use Rattle.model.specs.declared.Range.{Range}

-- a cell where it stands
pub record CellAt : Type 0 where
  pub at : CellCoordinate
  pub cell : Cell

-- `regions` are the cells that may be marked
pub record Sheet : Type 0 where
  pub cells : List CellAt
  pub regions : List CellCoordinate
  pub pool : List ℕ
  pub name : Span

-- the grid's last row and column
abbrev pub max_row : ℕ
max_row = 1_048_575

abbrev pub max_col : ℕ
max_col = 16_383

-- the most cells, regions and rules of a job, and the most bytes of its pool
abbrev pub max_cells : ℕ
max_cells = 1024

abbrev pub max_regions : ℕ
max_regions = 1024

abbrev pub max_rules : ℕ
max_rules = 64

abbrev pub max_pool : ℕ
max_pool = 65_536

-- the bytes of a text
unfoldable pub text_at : List ℕ → Span → List ℕ
text_at pool s = take s.len (drop s.at pool)

unfoldable pub same_coordinate : CellCoordinate → CellCoordinate → Bool
same_coordinate a b = eqb a.row b.row && eqb a.col b.col

-- the cell at a coordinate
unfoldable pub cell_at : List CellAt → CellCoordinate → Option Cell
cell_at [] at = none
cell_at (c ∷ cs) at = let later = cell_at cs at in cond (same_coordinate c.at at) (some c.cell) later

-- ---- the columns

-- the seven cell columns; `nums` holds bit patterns
pub record CellColumns : Type 0 where
  pub rows : List ℕ
  pub cols : List ℕ
  pub kinds : List ℕ
  pub wraps : List ℕ
  pub nums : List ℕ
  pub ats : List ℕ
  pub lens : List ℕ

-- kinds are 1 number, 2 date, 3 text, 4 bool and 5 error
unfoldable pub value_of : ℕ → ℕ → ℕ → ℕ → CellValue
value_of kind bits at len =
    cond (eqb kind 1) (CellValue.Number (of_bits binary64 bits))
    (cond (eqb kind 2) (CellValue.Date (of_bits binary64 bits))
    (cond (eqb kind 3) (CellValue.Text (record { at = at; len = len }))
    (cond (eqb kind 4) (CellValue.Bool (eqb len 1)) CellValue.Error)))

unfoldable pub cell_from : CellColumns → ℕ → CellAt
cell_from c i =
    record {
      at = record { row = get_or c.rows i 0; col = get_or c.cols i 0 };
      cell = record {
        value = value_of (get_or c.kinds i 0) (get_or c.nums i 0) (get_or c.ats i 0) (get_or c.lens i 0);
        wraps = get_or c.wraps i 0;
      };
    }

-- the n cells from index i on
unfoldable pub cells_from : CellColumns → ℕ → ℕ → List CellAt
cells_from c i zero = []
cells_from c i (suc n) = cell_from c i ∷ cells_from c (suc i) n

-- the n regions from index i on
unfoldable pub regions_from : List ℕ → List ℕ → ℕ → ℕ → List CellCoordinate
regions_from rows cols i zero = []
regions_from rows cols i (suc n) = record { row = get_or rows i 0; col = get_or cols i 0 } ∷ regions_from rows cols (suc i) n

-- ---- ranges

unfoldable pub in_range : Range → CellCoordinate → Bool
in_range r at = leb r.top at.row && leb at.row r.bottom && leb r.left at.col && leb at.col r.right

-- no first row or column past its last; any other range is inverted
unfoldable pub upright : Range → Bool
upright r = leb r.top r.bottom && leb r.left r.right

unfoldable pub within_grid : Range → Bool
within_grid r = leb r.bottom max_row && leb r.right max_col

-- how many coordinates an upright range has
unfoldable pub area : Range → ℕ
area r = suc (r.bottom - r.top) * suc (r.right - r.left)
