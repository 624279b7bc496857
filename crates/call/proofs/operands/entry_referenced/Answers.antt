-- `call::operands::entry_referenced` meets its contract: a reference means a cell, or nothing. Assumes nothing.
use mathlib.Core.Path.{sym, ◌∙◌}
use Rattle.cells.specs.Columns.{entry_referenced}
use Rattle.call.proofs.operands.entry_referenced.Goals as goal

pub returns-in-Some : goal.returns-in-Some
unfolding entry_referenced
returns-in-Some c =
    rw (sym c.conditional_reference_coordinate.ensures ∙ c.in-Some.is) c.entry_at.ensures

pub returns-in-None : goal.returns-in-None
unfolding entry_referenced
returns-in-None c = rw (sym c.conditional_reference_coordinate.ensures ∙ c.in-None.is)
