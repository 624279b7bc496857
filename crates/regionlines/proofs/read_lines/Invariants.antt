-- `regionlines::read_lines` meets its contract. The loop's invariant: what holds of the lines from here on holds of all of them from the
-- start (`Rest`). A line that was read is stored and passes on to the next. Assumes nothing.
use Rattle.regionlines.proofs.Sections.{Rest}
use Rattle.regionlines.proofs.read_lines.Given as goal

abbrev pub invariant-loop-i : goal.invariant-loop-i
invariant-loop-i l = Rest l.s l.at l.number l.initial.rows l.initial.cols l.rows l.cols l.next l.i
