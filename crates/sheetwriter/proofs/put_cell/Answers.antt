-- `sheetwriter::put_cell` meets its contract: row, column, boxes and value. Assumes nothing.
use Prim.Native.Nat.{◌<◌}
use native.Mathlib.Omega.{arith}
use lib.ListN.{length}
use Rattle.model.specs.Lent.{cells_lent}
use Rattle.put.specs.Put.{last}
use Rattle.put.proofs.Laws.{puts_then, puts_as}
use Rattle.sheetwriter.proofs.Lines.{cell_joined}
use Rattle.sheetwriter.proofs.put_cell.Goals as goal

pub returns : goal.returns
returns c =
    let room : length c.args.text.now.bytes.now < last = omega arith in
    puts_as (
    puts_then room (puts_then room (puts_then room c.put_number.ensures c.put_number-2.ensures) c.put_number-3.ensures)
    c.put_value.ensures)
    (cell_joined c.args.pool.now (cells_lent c.args.cells) c.args.i c.at.ensures c.at-2.ensures c.at-3.ensures c.at-6.ensures c.at-7.ensures
    c.at-4.ensures c.at-5.ensures)
