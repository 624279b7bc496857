use mathlib.Core.Path.{ap, ◌∙◌}
use Rattle.model.specs.Sheet.{cell_from}
use Rattle.model.specs.Readings.{numeric_cell_value}
use Rattle.hits.specs.Said.{as_float}
use Rattle.call.proofs.numbers.number_at.Goals as goal

pub returns : goal.returns
unfolding cell_from
returns c rows cols =
    c.float_of.ensures ∙ ap as_float (c.numeric_cell_value.ensures ∙ ap numeric_cell_value (c.cell_from-cell.ensures rows cols))
