-- `call::ahead::charges_area` meets its contract: a duplicate rule, or any other. Assumes nothing.
use Rattle.order.specs.Order.{is_duplicates}
use Rattle.order.proofs.Keyed.{not_duplicates}
use borrow.Enum.Refused.{opened}
use Rattle.call.proofs.ahead.charges_area.Goals as goal

pub returns-in-DuplicateValues : goal.returns-in-DuplicateValues
unfolding is_duplicates
returns-in-DuplicateValues c = rw c.in-DuplicateValues.is c.within_grid.ensures

pub returns-in_default : goal.returns-in_default
returns-in_default c = rw (not_duplicates _ (opened c.in_default.in_default-own.keys2))
