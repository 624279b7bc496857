-- `sheetwriter::put_cell_lines` meets its contract. The loop's invariant: the lines of the cells that are left, put from here on, give
-- what all lines give from the start. Assumes nothing.
use lib.ListN.{length}
use Rattle.model.specs.Lent.{cells_lent}
use Rattle.jobtext.specs.Said.{cells_said}
use Rattle.jobtext.specs.Text.{cell_line}
use Rattle.sheetwriter.proofs.Lines.{LinesLeft}
use Rattle.sheetwriter.proofs.put_cell_lines.Given as goal

abbrev pub invariant-loop-i : goal.invariant-loop-i
invariant-loop-i l = LinesLeft cell_line.text (cells_said l.pool (cells_lent l.cells)) (length l.cells.rows.now) l.initial.text l.i l.text
