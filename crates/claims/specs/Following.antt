-- What is claimed of the walk over the cells and the regions of a sheet (document 02, T-02), as statements only: of what the contract of
-- `places::walk_cells` asks (`Pre`) and promises (`Post`; Claims.antt says where these are from). proofs/FollowingHeld.antt proves them.
-- Assumes nothing.
use Rattle.std.specs.Prelude.{ℕ, suc, ◌+◌, ◌-◌, ◌≤◌, ◌<◌, ◌≡◌, ◌⊎◌, ◌↔◌, List, length, get_or, replicate, Some, None}
use Rattle.std.proofs.Math.Option.{none, some}
use contract.Lifetimes.{Lfts}
use Rattle.model.specs.declared.CellCoordinate.{CellCoordinate}
use Rattle.model.specs.Sheet.{CellColumns, cell_at, cell_from}
use Rattle.model.specs.Job.{Job, first_fall}
use Rattle.laws.specs.Demands.{WellFormed}
use Rattle.cells.specs.Columns.{cells_of, coordinate_at}
use Rattle.places.specs.Places.{Walked}
use Rattle.places.specs.Walk.{standing, walked, table_of}
use Rattle.places.specs.Reached.{count, is_passed, is_met, reached}
use Rattle.places.proofs.walk_cells.Reads as walkCall
use Rattle.claims.specs.Arguments.{Places, slice, slice_mut, Numbers, NumbersMut, ◌⊗◌, ◌&◌}

-- ---- the arguments of the walk, by their names

abbrev pub Where : Type 0
Where = Places 5

abbrev pub Args : Type 0
Args = Numbers ⊗ Numbers ⊗ Numbers ⊗ Numbers ⊗ NumbersMut ⊗ Unit {0}

-- the columns that the walk is over, of cells and of regions
pub record Sides : Type 0 where
  pub cells : CellColumns
  pub region_rows : List ℕ
  pub region_cols : List ℕ

abbrev pub cells_on : Sides → List CellCoordinate
cells_on s = standing s.cells.rows s.cells.cols

abbrev pub regions_on : Sides → List CellCoordinate
regions_on s = standing s.region_rows s.region_cols

-- with the table of places that is lent for writing
abbrev args : Where → Sides → List ℕ → Args
args w s table =
    slice w 0 s.cells.rows & slice w 1 s.cells.cols & slice w 2 s.region_rows & slice w 3 s.region_cols & slice_mut w 4 table & tt

-- the walk ends with this answer, and leaves this in the table that held `before`
abbrev pub Ends : Where → Sides → List ℕ → Walked → List ℕ → Type 0
Ends w s before a after = walkCall.Post w.lifetimes (args w s before) a (args w s after)

-- ---- on columns of any lengths and in any order

-- nothing is asked of the caller
abbrev pub NothingAsked : Type 0
NothingAsked = (κs : Lfts 5) (a : Args) → walkCall.Pre κs a

-- the answer and every entry are the definition's, whatever the table held
abbrev pub Determined : Type 0
Determined = (w : Where) (s : Sides) (before after : List ℕ) (a : Walked) → Ends w s before a after
    → (a ≡ walked (cells_on s) (regions_on s) (length before)) × (after ≡ table_of (cells_on s) (regions_on s) (length before))

-- an answer and a table that the contract allows, on every input
pub record Ending (w : Where) (s : Sides) (before : List ℕ) : Type 0 where
  pub answer : Walked
  pub after : List ℕ
  pub ends : Ends w s before answer after

abbrev pub Possible : Type 0
Possible = (w : Where) (s : Sides) (before : List ℕ) → Ending w s before

-- refused exactly if the table has fewer entries than there are regions, or there are more cells than an entry can name
abbrev pub RefusedExactly : Type 0
RefusedExactly = (w : Where) (s : Sides) (before after : List ℕ) (a : Walked) → Ends w s before a after
    → (a ≡ None) ↔ ((length before < length s.region_rows) ⊎ (65_535 < length s.cells.rows))

-- demand 1: after a refusal zeros from end to end, and otherwise zeros behind the last region
abbrev pub DemandOne : Type 0
DemandOne = (w : Where) (s : Sides) (before after : List ℕ) (a : Walked) → Ends w s before a after
    → (length after ≡ length before) × (a ≡ None → after ≡ replicate (length before) 0)
    × ((i : ℕ) → length s.region_rows ≤ i → get_or after i 0 ≡ 0)

-- at most as many comparisons as there are regions and cells
abbrev pub AtMost : Type 0
AtMost = (w : Where) (s : Sides) (before after : List ℕ) (n : ℕ) → Ends w s before (Some n) after
    → n ≤ length s.region_rows + length s.cells.rows

-- at most one less, unless there are none of both
abbrev pub OneLess : Type 0
OneLess = (w : Where) (s : Sides) (before after : List ℕ) (n : ℕ) → Ends w s before (Some n) after
    → n ≤ length s.region_rows + length s.cells.rows - 1

-- ---- on rising columns

pub record Rising (s : Sides) : Type 0 where
  pub cells : first_fall s.cells.rows s.cells.cols ≡ none
  pub regions : first_fall s.region_rows s.region_cols ≡ none

-- those of a well-formed job rise
abbrev pub JobsRise : Type 0
JobsRise = (j : Job) → WellFormed j → Rising (record { cells = j.cells; region_rows = j.region_rows; region_cols = j.region_cols })

-- an entry is 0 where no cell stands at the coordinate, and else the place plus one of the one that does
pub record Found (c : CellColumns) (at : CellCoordinate) (entry : ℕ) : Type 0 where
  pub nothing : entry ≡ 0 → cell_at (cells_of c) at ≡ none
  pub within : (place : ℕ) → entry ≡ suc place → place < length c.rows
  pub stands : (place : ℕ) → entry ≡ suc place → (cell_from c place).at ≡ at
  pub cell : (place : ℕ) → entry ≡ suc place → cell_at (cells_of c) at ≡ some (cell_from c place).cell

-- in one pass the walk finds for each region the cell at its coordinate, or none
abbrev pub Finds : Type 0
Finds = (w : Where) (s : Sides) (before after : List ℕ) (n : ℕ) → Rising s → Ends w s before (Some n) after
    → (i : ℕ) → i < length s.region_rows → Found s.cells (coordinate_at s.region_rows s.region_cols i) (get_or after i 0)

-- at least one comparison for each cell that a region comes after or stands at: each that is passed or found
abbrev pub AtLeast : Type 0
AtLeast = (w : Where) (s : Sides) (before after : List ℕ) (n : ℕ) → Rising s → Ends w s before (Some n) after
    → reached (cells_on s) (regions_on s) ≤ n

-- one for each cell that a region comes after, and one for each region that a cell stands at or comes after
abbrev pub Exactly : Type 0
Exactly = (w : Where) (s : Sides) (before after : List ℕ) (n : ℕ) → Rising s → Ends w s before (Some n) after
    → n ≡ count (is_passed (regions_on s)) (cells_on s) + count (is_met (cells_on s)) (regions_on s)

-- ---- the bounds are met

-- a walk of three cells that makes n comparisons
pub record Shown (s : Sides) (n : ℕ) : Type 0 where
  pub rising : Rising s
  pub cells : length s.cells.rows ≡ 3
  pub compares : (w : Where) (before after : List ℕ) (a : Walked) → length s.region_rows ≤ length before → Ends w s before a after
      → a ≡ Some n

-- three regions that stand at the cells: one comparison less than there are of both
pub record Most : Type 0 where
  pub sides : Sides
  pub regions : length sides.region_rows ≡ 3
  pub shown : Shown sides 5

-- a region behind the cells: one comparison for each of them, and all are passed
pub record Fewest : Type 0 where
  pub sides : Sides
  pub regions : length sides.region_rows ≡ 1
  pub reaches : reached (cells_on sides) (regions_on sides) ≡ 3
  pub shown : Shown sides 3
