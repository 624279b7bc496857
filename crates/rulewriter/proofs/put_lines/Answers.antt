use native.Mathlib.Omega.{arith}
use Rattle.put.proofs.Laws.{puts_begun, puts_more, puts_done}
use Rattle.rulewriter.proofs.Lines.{lines_next, lines_none}
use Rattle.rulewriter.proofs.put_lines.Goals as goal

pub loop-rule-init : goal.loop-rule-init
loop-rule-init c = puts_begun c.requires

pub loop-rule-preserved : goal.loop-rule-preserved
loop-rule-preserved c =
    let loop = c.loop-rule in
    puts_more (omega arith) loop.invariant (lines_next _ _ loop.rule-index _ c.loop-rule-test.true) c.put_rule.ensures

pub returns : goal.returns
returns c =
    puts_done c.loop-rule.invariant (lines_none _ _ c.loop-rule.rule-index c.loop-rule-test.false)
