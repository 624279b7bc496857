-- `report::write_refused` meets its contract: the two lines of the refusal, kept if they fit. Assumes nothing.
use native.Mathlib.Omega.{arith}
use mathlib.Core.Path.{sym, ap}
use Rattle.put.proofs.Laws.{puts_as, stops_of_laid}
use Rattle.put.proofs.Keeping.{kept_page}
use Rattle.reporttext.specs.Report.{summary_text}
use Rattle.report.proofs.write_refused.Goals as goal

pub returns : goal.returns
returns c =
    let laid = puts_as c.put_summary.ensures (ap summary_text (sym c.figures_of_refusal.ensures)) in
    let text = stops_of_laid (omega arith) laid.laid in
    record {
      length = (kept_page text c.keep.ensures.length c.keep.ensures.bytes).length;
      bytes = (kept_page text c.keep.ensures.length (grind arith)).bytes;
    }
