use native.Mathlib.Omega.{arith}
use Rattle.fields.proofs.Laws.{error_left}
use Rattle.regionlines.proofs.Sections.{rest_begun, rest_next, rest_stopped, rest_done}
use Rattle.regionlines.proofs.read_lines.Goals as goal

pub loop-i-init : goal.loop-i-init
loop-i-init c = rest_begun _ _ _ _ _

pub returns-in_err-region : goal.returns-in_err-region
returns-in_err-region c =
    rest_stopped c.loop-i.invariant c.from_residual.result _ _ (omega arith) c.in_err-region.ensures
    (error_left c.from_residual.result c.from_residual.ensures.1)

pub loop-i-preserved : goal.loop-i-preserved
loop-i-preserved c = rest_next c.loop-i.invariant (omega arith) c.in_ok-region.ensures c.store.ensures c.store-in-loop-i.ensures

pub returns : goal.returns
returns c = rest_done c.loop-i.invariant (omega arith)
