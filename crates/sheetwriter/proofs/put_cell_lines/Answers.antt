use native.Mathlib.Omega.{arith}
use Rattle.model.specs.Lent.{cells_lent}
use Rattle.sheetwriter.proofs.Lines.{cells_listed, lines_begun, lines_more, lines_done}
use Rattle.sheetwriter.proofs.put_cell_lines.Goals as goal

pub loop-i-init : goal.loop-i-init
loop-i-init c = lines_begun c.requires

pub loop-i-preserved : goal.loop-i-preserved
loop-i-preserved c =
    lines_more (cells_listed c.args.pool.now (cells_lent c.args.cells)) (omega arith) c.loop-i-test.true c.loop-i.invariant c.put_cell.ensures

pub returns : goal.returns
returns c = lines_done (cells_listed c.args.pool.now (cells_lent c.args.cells)) (omega arith) c.loop-i.invariant
