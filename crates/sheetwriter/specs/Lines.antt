-- Short names for the contracts: the values of the first two lines, and the coordinate at an index of two columns. Assumes nothing.
use Rattle.std.specs.Prelude.{ℕ, List, get_or}
use Rattle.model.specs.declared.CellCoordinate.{CellCoordinate}
use Rattle.jobtext.specs.Text.{Head}

abbrev pub head_with : ℕ → ℕ → ℕ → ℕ → ℕ → List ℕ → Head
head_with limit start cells regions rules name =
    record { limit = limit; start = start; cells = cells; regions = regions; rules = rules; name = name }

abbrev pub coordinate_in : List ℕ → List ℕ → ℕ → CellCoordinate
coordinate_in rows cols i = record { row = get_or rows i 0; col = get_or cols i 0 }
