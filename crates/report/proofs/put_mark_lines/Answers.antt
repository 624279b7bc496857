use native.Mathlib.Omega.{arith}
use mathlib.Core.Path.{sym}
use Rattle.put.proofs.Laws.{puts_begun, puts_done, puts_stopped, some_of_puts, some_as}
use Rattle.reporttext.specs.Report.{shaped_at}
use Rattle.report.proofs.Lines.{marks_all, marks_more, marks_none}
use Rattle.report.proofs.put_mark_lines.Goals as goal

pub loop-i-init : goal.loop-i-init
loop-i-init c = puts_begun c.requires

pub returns-then-text : goal.returns-then-text
returns-then-text c =
    let a = c.args in
    some_as (
    puts_stopped (omega arith) (
    marks_more (shaped_at a.rules.now) a.marks.regions.now a.marks.rules.now a.marks.kinds.now a.marks.colours.now
    a.marks.ppms.now a.marks.shapes.now a.n c.loop-i.i (omega arith) c.loop-i-test.true c.loop-i.invariant c.put_mark_at.ensures)
    c.if-text.true)
    (sym (marks_all (shaped_at a.rules.now) a.marks.regions.now a.marks.rules.now a.marks.kinds.now a.marks.colours.now a.marks.ppms.now a.marks.shapes.now a.n))

pub loop-i-preserved : goal.loop-i-preserved
loop-i-preserved c =
    let a = c.args in
    marks_more (shaped_at a.rules.now) a.marks.regions.now a.marks.rules.now a.marks.kinds.now a.marks.colours.now
    a.marks.ppms.now a.marks.shapes.now a.n c.loop-i.i (omega arith) c.loop-i-test.true c.loop-i.invariant c.put_mark_at.ensures

pub returns : goal.returns
returns c =
    let a = c.args in
    let all = puts_done c.loop-i.invariant
    (marks_none (shaped_at a.rules.now) a.marks.regions.now a.marks.rules.now a.marks.kinds.now a.marks.colours.now
    a.marks.ppms.now a.marks.shapes.now a.n c.loop-i.i (omega arith)) in
    some_as (some_of_puts (omega arith) all)
    (sym (marks_all (shaped_at a.rules.now) a.marks.regions.now a.marks.rules.now a.marks.kinds.now a.marks.colours.now a.marks.ppms.now a.marks.shapes.now a.n))
