-- Short names for the contracts: a sheet from its parts. Assumes nothing.
use Rattle.std.specs.Prelude.{ℕ, List}
use Rattle.model.specs.declared.CellCoordinate.{CellCoordinate}
use Rattle.model.specs.declared.Span.{Span}
use Rattle.model.specs.Sheet.{CellAt, Sheet}

abbrev pub sheet_from : List CellAt → List CellCoordinate → List ℕ → Span → Sheet
sheet_from cells regions pool name = record { cells = cells; regions = regions; pool = pool; name = name }
