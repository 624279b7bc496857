-- `call::ahead::cells_asked` meets its contract: a charge was refused, a kind asks for no cells, or they are counted. Assumes nothing.
use mathlib.Core.Path.{sym, ◌∙◌}
use mathlib.Core.Bool.{false≢true}
use Rattle.plans.specs.Plans.{takes_values}
use Rattle.order.specs.Order.{is_duplicates}
use Rattle.call.specs.Tables.{asks_cells}
use Rattle.call.proofs.Parting.{refused}
use Rattle.call.proofs.ahead.cells_asked.Goals as goal

pub returns-then-is_err : goal.returns-then-is_err
returns-then-is_err c rows kinds wraps nums ats lens counter within band asks =
    absurd (refused _ (sym c.is_err.ensures.value ∙ c.if-is_err.true) counter within)

pub returns-in-CellIs : goal.returns-in-CellIs
unfolding asks_cells takes_values is_duplicates
returns-in-CellIs c rows kinds wraps nums ats lens counter within band asks =
    absurd (false≢true (rw c.in-CellIs.is at asks))

pub returns-in-Expression : goal.returns-in-Expression
unfolding asks_cells takes_values is_duplicates
returns-in-Expression c rows kinds wraps nums ats lens counter within band asks =
    absurd (false≢true (rw c.in-Expression.is at asks))

pub returns-in_default : goal.returns-in_default
returns-in_default c rows kinds wraps nums ats lens counter within band asks =
    c.cells_in.ensures rows kinds wraps nums ats lens band
