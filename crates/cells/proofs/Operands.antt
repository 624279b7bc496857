-- What a reference reads as by an entry of a table of places, and that a sheet's regions do not count for an operand. Assumes nothing.
use Rattle.std.specs.Prelude.{Some, None}
use Prim.Native.Nat.{ℕ}
use mathlib.Core.Path.{◌≡◌, refl, ap}
use mathlib.Core.List.{List}
use Rattle.model.specs.declared.CellCoordinate.{CellCoordinate}
use Rattle.model.specs.declared.Range.{Range}
use Rattle.model.specs.declared.A1Reference.{A1Reference}
use Rattle.model.specs.Options.{Referenced}
use Rattle.model.specs.declared.Span.{Span}
use Rattle.model.specs.declared.ConditionalOperand.{ConditionalOperand as Operand}
use Rattle.model.specs.Sheet.{Sheet, CellColumns}
use Rattle.model.specs.Readings.{numeric_of, numeric_at}
use Rattle.model.specs.References.{reference_coordinate, numeric_referenced, resolved}
use Rattle.cells.specs.Columns.{cells_of, entry_referenced, cell_named, operand_named, sheet_with}
use Rattle.cells.proofs.Laws.{entry_named}

-- what the entry for a reference's cell reads as
module _ (c : CellColumns) (pool : List ℕ) (name : Span) where
  abbrev sheet : Sheet
  sheet = sheet_with (cells_of c) pool name

  referenced_named : (x : Referenced) → numeric_of (cell_named c (entry_referenced c.rows c.cols x)) ≡ numeric_referenced sheet x
  unfolding entry_referenced numeric_referenced numeric_at cell_named
  referenced_named (Some at) = ap numeric_of (entry_named c at)
  referenced_named None = refl

  module _ (range : Range) (target : CellCoordinate) where
    pub meant_reference : (f : A1Reference) (entry : ℕ)
        → entry ≡ entry_referenced c.rows c.cols (reference_coordinate pool name range target f)
        → operand_named c (Operand.Reference f) entry ≡ resolved sheet range target (Operand.Reference f)
    unfolding operand_named resolved
    meant_reference f entry e = rw e (referenced_named _)

-- ---- without regions

module _ (s : Sheet) where
  abbrev bare : Sheet
  bare = sheet_with s.cells s.pool s.name

  bare_numeric : (at : Referenced) → numeric_referenced bare at ≡ numeric_referenced s at
  unfolding numeric_referenced
  bare_numeric (Some at) = refl
  bare_numeric None = refl

  pub resolved_bare : (range : Range) (target : CellCoordinate) (operand : Operand)
      → resolved (sheet_with s.cells s.pool s.name) range target operand ≡ resolved s range target operand
  unfolding resolved
  resolved_bare range target (Operand.Literal x) = refl
  resolved_bare range target (Operand.Reference f) = bare_numeric _
  resolved_bare range target Operand.Unread = refl
