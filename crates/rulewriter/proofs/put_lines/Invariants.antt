-- `rulewriter::put_lines` meets its contract. The loop's invariant: the lines of the rules that are left, put from here on, give what all
-- lines give from the start. Assumes nothing.
use Rattle.put.proofs.Laws.{PutsLeft}
use Rattle.rulewriter.proofs.Lines.{lines_from}
use Rattle.rulewriter.proofs.put_lines.Given as goal

abbrev pub invariant-loop-rule : goal.invariant-loop-rule
invariant-loop-rule l = PutsLeft l.initial.text (lines_from l.pool l.rules 0) l.text (lines_from l.pool l.rules l.rule-index)
