-- `report::write_refusal` meets its contract: nothing for the number 0, else the two lines, kept if they fit. Assumes nothing.
use native.Mathlib.Omega.{arith}
use mathlib.Core.Path.{sym, ap}
use mathlib.Core.Bool.{not}
use borrow.Author.Tests.{eq-eqb, ne_eqb}
use Rattle.put.proofs.Laws.{puts_as, stops_of_laid}
use Rattle.put.proofs.Keeping.{kept_page}
use Rattle.reporttext.specs.Report.{summary_text}
use Rattle.report.proofs.Printing.{printed_page, printed_none}
use Rattle.report.proofs.write_refusal.Goals as goal

pub returns-then-number-eq0 : goal.returns-then-number-eq0
returns-then-number-eq0 c =
    let none = printed_none _ (ap not (eq-eqb _ _ c.if-number-eq0.true)) (c.fill.ensures.after (λ y e. e)) in
    record { length = none.length; bytes = none.bytes }

pub returns : goal.returns
returns c =
    let laid = puts_as c.put_summary.ensures (ap summary_text (sym c.refusal_figures.ensures)) in
    let yes = ap not (ne_eqb _ _ c.if-number-eq0.false) in
    let text = stops_of_laid (omega arith) laid.laid in
    record {
      length = (printed_page yes (kept_page text c.keep.ensures.length c.keep.ensures.bytes)).length;
      bytes = (printed_page yes (kept_page text c.keep.ensures.length (grind arith))).bytes;
    }
