-- The definitions that a computed example opens. Assumes nothing.
use Rattle.grammar.specs.Parts as Parts
use Rattle.grammar.specs.Numbers as Numbers
use Rattle.reporttext.specs.Report as Report
use Rattle.reporttext.specs.Shown as Shown
use Rattle.model.specs.Run as Run
use Rattle.model.specs.Ratio as Ratio
use Rattle.model.specs.Answer as Answer

unfoldable pub lines : Unit {0}
unfolding Parts.bytes Parts.times_text Numbers.digits Numbers.hex_digit Numbers.hex_digits Run.has_bar Ratio.bar_cells
    Answer.refusal Answer.answer Answer.refused
    Report.summary_names Report.summary_line Report.mark_names Report.has_colour Report.paint_text Report.mark_line Report.bar_names
    Report.bar_line Report.bar_lines Report.summary_text Report.marks_text Report.bars_text Report.shaped_at Report.report_of
    Shown.marks_in Shown.bars_in Shown.result_in
lines = tt
