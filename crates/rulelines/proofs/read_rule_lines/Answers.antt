-- `rulelines::read_rule_lines` meets its contract, line by line. Assumes nothing.
use mathlib.Core.Path.{◌∙◌}
use native.Mathlib.Omega.{arith}
use Rattle.fields.proofs.Laws.{error_left}
use Rattle.rulelines.proofs.RuleSections.{rest_stopped, rest_next, rest_done}
use Rattle.rulelines.proofs.read_rule_lines.Goals as goal

pub returns-in_err-rule : goal.returns-in_err-rule
returns-in_err-rule c =
    let told = rest_stopped c.loop-i.invariant _ _ (omega arith) c.in_err-rule.ensures.rule in
    record { value = error_left _ c.from_residual.ensures.1 ∙ told.0; pooled = told.1 }

pub loop-i-preserved : goal.loop-i-preserved
loop-i-preserved c =
    rest_next c.loop-i.invariant _ (omega arith) c.in_ok-rule.ensures.rule c.read_rule.ensures.pooled c.read_rule.auto.pool

pub returns : goal.returns
returns c = let told = rest_done c.loop-i.invariant (omega arith) in record { value = told.0; pooled = told.1 }
