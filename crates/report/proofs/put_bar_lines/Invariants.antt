-- `report::put_bar_lines` meets its contract. The loop's invariant: the lines of the regions that are left, put from here on, give what
-- all lines give from the start. A line that is put is the first of them. Assumes nothing.
use lib.ListN.{length}
use Rattle.put.proofs.Laws.{PutsLeft}
use Rattle.report.proofs.Lines.{bars_from}
use Rattle.report.proofs.put_bar_lines.Given as goal

abbrev pub invariant-loop-i : goal.invariant-loop-i
invariant-loop-i l =
    PutsLeft l.initial.text (bars_from l.rules l.ppms (length l.rules) 0) l.text (bars_from l.rules l.ppms (length l.rules) l.i)
