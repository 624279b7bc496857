-- `celllines::read_lines` meets its contract. The loop's invariant: what the lines from here on leave is what all of them leave from the
-- start (`Rest`). A line that was read is stored and passes on to the next. Assumes nothing.
use Rattle.celllines.specs.Columns.{columns}
use Rattle.celllines.proofs.Sections.{Rest}
use Rattle.celllines.proofs.read_lines.Given as goal

abbrev pub invariant-loop-i : goal.invariant-loop-i
invariant-loop-i l = Rest
    l.s l.at l.number l.used
    (columns l.initial.rows l.initial.cols l.initial.kinds l.initial.wraps l.initial.nums l.initial.ats l.initial.lens) l.initial.pool
    (columns l.rows l.cols l.kinds l.wraps l.nums l.ats l.lens) l.pool l.next l.end l.i
