-- Which cells a walk over rising cells and regions passes or finds, and which regions it meets, in words of the sheet alone.
-- Assumes nothing.
use Rattle.std.specs.Prelude.{ℕ, ◌+◌, Bool, false, cond, ◌||◌, List, [], ◌∷◌}
use Rattle.model.specs.declared.CellCoordinate.{CellCoordinate}
use Rattle.model.specs.Sheet.{same_coordinate}
use Rattle.places.specs.Walk.{before}

-- how many meet a test
unfoldable pub count : (CellCoordinate → Bool) → List CellCoordinate → ℕ
count test [] = 0
count test (c ∷ cs) = cond (test c) 1 0 + count test cs

-- one of them meets a test
unfoldable pub any_of : (CellCoordinate → Bool) → List CellCoordinate → Bool
any_of test [] = false
any_of test (c ∷ cs) = test c || any_of test cs

-- a region comes after the cell
abbrev pub is_passed : List CellCoordinate → CellCoordinate → Bool
is_passed regions cell = any_of (λ region. before cell region) regions

-- a region stands at the cell
abbrev pub is_found : List CellCoordinate → CellCoordinate → Bool
is_found regions cell = any_of (λ region. same_coordinate cell region) regions

-- a cell stands at the region or comes after it
abbrev pub is_met : List CellCoordinate → CellCoordinate → Bool
is_met cells region = any_of (λ cell. before region cell || same_coordinate region cell) cells

abbrev pub is_reached : List CellCoordinate → CellCoordinate → Bool
is_reached regions cell = is_passed regions cell || is_found regions cell

-- how many cells are passed or found
abbrev pub reached : List CellCoordinate → List CellCoordinate → ℕ
reached cells regions = count (is_reached regions) cells
