-- `call::marks::draw_bars` meets its contract: a bar test, or any other. Assumes nothing.
use Rattle.plans.specs.Plans.{is_bar_test}
use Rattle.hits.specs.Painted.{ppm_by}
use Rattle.turns.proofs.Planning.{no_bar_test}
use borrow.Enum.Refused.{opened}
use Rattle.call.proofs.marks.draw_bars.Goals as goal

pub returns-in-DataBar : goal.returns-in-DataBar
unfolding is_bar_test ppm_by
returns-in-DataBar c =
    rw c.in-DataBar.is c.draw_hits.ensures

pub returns-in_default : goal.returns-in_default
returns-in_default c = rw (no_bar_test c.args.test (opened c.in_default.in_default-own.keys2))
