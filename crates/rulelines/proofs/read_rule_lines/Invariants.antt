-- What the lines from here on leave is what all of them leave from the start (`Rest`). Assumes nothing.
use lib.ListN.{replicate}
use Rattle.jobtext.specs.Laid.{blank_rule}
use Rattle.rulelines.proofs.RuleSections.{Rest}
use Rattle.rulelines.proofs.read_rule_lines.Given as goal

abbrev pub invariant-loop-i : goal.invariant-loop-i
invariant-loop-i l = Rest l.s l.at l.number l.fn.used (replicate 64 blank_rule) l.initial.pool l.records l.pool l.next l.used l.i
