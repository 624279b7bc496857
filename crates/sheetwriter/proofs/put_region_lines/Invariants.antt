-- `sheetwriter::put_region_lines` meets its contract. The loop's invariant: the lines of the regions that are left, put from here on,
-- give what all lines give from the start. Assumes nothing.
use lib.ListN.{length}
use Rattle.model.specs.Sheet.{regions_from}
use Rattle.jobtext.specs.Text.{region_line}
use Rattle.sheetwriter.proofs.Lines.{LinesLeft}
use Rattle.sheetwriter.proofs.put_region_lines.Given as goal

abbrev pub invariant-loop-i : goal.invariant-loop-i
invariant-loop-i l =
    LinesLeft region_line.text (regions_from l.regions.rows.now l.regions.cols.now) (length l.regions.rows.now) l.initial.text l.i l.text
