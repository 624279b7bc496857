-- `report::put_mark_lines` meets its contract. The loop's invariant: the lines of the marks that are left, put from here on, give what all
-- lines give from the start. A line that is put is the first of them. Assumes nothing.
use Rattle.put.proofs.Laws.{PutsLeft}
use Rattle.reporttext.specs.Report.{shaped_at}
use Rattle.report.proofs.Lines.{marks_from}
use Rattle.report.proofs.put_mark_lines.Given as goal

abbrev pub invariant-loop-i : goal.invariant-loop-i
invariant-loop-i l =
    PutsLeft l.initial.text (marks_from (shaped_at l.rules) l.marks.regions.now l.marks.rules.now l.marks.kinds.now l.marks.colours.now l.marks.ppms.now l.marks.shapes.now l.n 0) l.text
    (marks_from (shaped_at l.rules) l.marks.regions.now l.marks.rules.now l.marks.kinds.now l.marks.colours.now l.marks.ppms.now l.marks.shapes.now l.n l.i)
