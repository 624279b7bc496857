-- `report::write_report` meets its contract: nothing where the columns do not hold all marks; else a refusal's two lines, or the whole
-- answer, kept if they fit. Assumes nothing.
use native.Mathlib.Omega.{arith}
use mathlib.Core.Path.{sym, ap, ◌∙◌}
use lib.ListN.{take}
use Rattle.model.specs.Answer.{Summary}
use Rattle.put.proofs.Laws.{puts_as, stops_of_laid, some_of_puts, some_then, some_as}
use Rattle.put.proofs.Keeping.{kept_page}
use Rattle.reporttext.specs.Report.{report_of}
use Rattle.reporttext.specs.Shown.{printed, result_in}
use Rattle.reporttext.proofs.Shown.{report_refused, report_answered}
use Rattle.report.specs.Figures.{summary_of}
use Rattle.report.proofs.Printing.{printed_page, printed_none, all_held, not_held}
use Rattle.report.proofs.write_report.Goals as goal

pub returns-then-space-figures : goal.returns-then-space-figures
returns-then-space-figures c =
    let columns = printed c.args.regions.now c.args.ruleids.now c.args.kinds.now c.args.colours.now
    c.args.ppms.now c.args.shapes.now c.args.barrules.now c.args.barppms.now in
    let over = not_held columns c.figures_of-figures.ensures c.mark_space-space.ensures c.if-space-figures.true in
    let none = printed_none _ over (c.fill.ensures.after (λ y e. e)) in
    record { length = none.length; bytes = none.bytes }

pub returns-then-figures-ne0 : goal.returns-then-figures-ne0
unfolding result_in
returns-then-figures-ne0 c =
    let figures = c.figures_of-figures in
    let columns = printed c.args.regions.now c.args.ruleids.now c.args.kinds.now c.args.colours.now
    c.args.ppms.now c.args.shapes.now c.args.barrules.now c.args.barppms.now in
    let rules = take c.args.rules.now.number c.args.rules.now.records in
    let laid = puts_as c.put_summary.ensures (
    ap (λ (s : Summary). report_of rules (result_in s columns)) (sym figures.ensures)
    ∙ report_refused rules (result_in (summary_of figures.result) columns) c.if-figures-ne0.true) in
    let held = all_held columns figures.ensures c.mark_space-space.ensures c.if-space-figures.false in
    let text = stops_of_laid (omega arith) laid.laid in
    let kept = c.keep.ensures in
    record {
      length = (printed_page held (kept_page text kept.length kept.bytes)).length;
      bytes = (printed_page held (kept_page text kept.length (grind arith))).bytes;
    }

pub returns : goal.returns
unfolding result_in
returns c =
    let figures = c.figures_of-figures in
    let columns = printed c.args.regions.now c.args.ruleids.now c.args.kinds.now c.args.colours.now
    c.args.ppms.now c.args.shapes.now c.args.barrules.now c.args.barppms.now in
    let rules = take c.args.rules.now.number c.args.rules.now.records in
    let laid = some_as (some_then (some_of_puts (omega arith) c.put_summary.ensures) c.put_answer.ensures) (
    ap (λ (s : Summary). report_of rules (result_in s columns)) (sym figures.ensures)
    ∙ report_answered rules (result_in (summary_of figures.result) columns) c.if-figures-ne0.false
    ∙ rw c.declared.ensures) in
    let held = all_held columns figures.ensures c.mark_space-space.ensures c.if-space-figures.false in
    let kept = c.keep-2.ensures in
    record {
      length = (printed_page held (kept_page laid.stops kept.length kept.bytes)).length;
      bytes = (printed_page held (kept_page laid.stops kept.length (grind arith))).bytes;
    }
