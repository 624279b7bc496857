-- The walk over the cells and the regions of a sheet, each in the order of its columns (document 02, T-02): the walk stands at a cell; for
-- the next region it goes forward over the cells that come before the region, and stays where it then is. What holds of columns that do
-- not rise is said here too. Assumes nothing.
use Rattle.std.specs.Prelude.{ℕ, suc, ◌+◌, Bool, cond, ◌&&◌, List, [], ◌∷◌, leb, length, drop, Some, None}
use Rattle.memory.specs.Memory.{page_of}
use Rattle.model.specs.declared.CellCoordinate.{CellCoordinate}
use Rattle.model.specs.Sheet.{same_coordinate, regions_from}
use Rattle.model.specs.Job.{rises}
use Rattle.std.specs.declared.cmp.Ordering.{Ordering}
use Rattle.std.specs.declared.cmp.Ordering.TheVariants.{Less, Equal, Greater}
use Rattle.places.specs.Places.{Walked}

-- the coordinates that a column of rows and one of columns hold
abbrev pub standing : List ℕ → List ℕ → List CellCoordinate
standing rows cols = regions_from rows cols 0 (length rows)

-- ---- one comparison

-- (row, col) before (row, col)
abbrev pub before : CellCoordinate → CellCoordinate → Bool
before a b = rises a.row a.col b.row b.col

-- one comparison: a cell comes before a region, stands at it, or comes after it
unfoldable pub side : CellCoordinate → CellCoordinate → Ordering
side cell region = cond (before cell region) Less (cond (same_coordinate cell region) Equal Greater)

-- ---- the walk

-- for each region the place of its cell plus one, 0 for none; and how many comparisons were made
pub record Walk : Type 0 where
  pub places : List ℕ
  pub comparisons : ℕ

abbrev pub walk_of : List ℕ → ℕ → Walk
walk_of places comparisons = record { places = places; comparisons = comparisons }

-- how many cells the walk passes for a region: those before it, up to the first that is not
unfoldable pub passed : CellCoordinate → List CellCoordinate → ℕ
passed region [] = 0
passed region (c ∷ cs) = let later = passed region cs in cond (before c region) (suc later) 0

-- the region's entry, where the walk stands at the first of these cells; `place` is that cell's place
unfoldable pub entry_here : CellCoordinate → ℕ → List CellCoordinate → ℕ
entry_here region place [] = 0
entry_here region place (c ∷ cs) = cond (same_coordinate c region) (suc place) 0

-- one comparison for each cell that is passed, and one for the cell that is not, where there is one
unfoldable pub comparisons_for : ℕ → List CellCoordinate → ℕ
comparisons_for passed [] = passed
comparisons_for passed (c ∷ cs) = suc passed

-- the walk over the regions, from the first of these cells on; `place` is that cell's place
unfoldable pub walk_from : ℕ → List CellCoordinate → List CellCoordinate → Walk
walk_from place cells [] = walk_of [] 0
walk_from place cells (region ∷ regions) =
    let n = passed region cells in
    let left = drop n cells in
    let later = walk_from (place + n) left regions in
    walk_of (entry_here region (place + n) left ∷ later.places) (comparisons_for n left + later.comparisons)

abbrev pub walk : List CellCoordinate → List CellCoordinate → Walk
walk cells regions = walk_from 0 cells regions

-- ---- over lent columns

-- the table has an entry for each region, and an entry can name each cell
abbrev pub walk_fits : ℕ → ℕ → ℕ → Bool
walk_fits cells regions room = leb regions room && leb cells 65_535

unfoldable pub walked : List CellCoordinate → List CellCoordinate → ℕ → Walked
walked cells regions room =
    cond (walk_fits (length cells) (length regions) room) (Some (walk cells regions).comparisons) None

-- all entries with zeros behind them, or zeros from end to end
unfoldable pub table_of : List CellCoordinate → List CellCoordinate → ℕ → List ℕ
table_of cells regions room = page_of (walk_fits (length cells) (length regions) room) room (walk cells regions).places
