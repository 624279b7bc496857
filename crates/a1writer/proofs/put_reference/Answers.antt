-- `a1writer::put_reference` meets its contract: the name, then mark and letters, then mark and digits. Assumes nothing.
use Prim.Native.Nat.{◌<◌}
use native.Mathlib.Omega.{arith}
use lib.ListN.{length}
use Rattle.put.specs.Put.{last}
use Rattle.put.proofs.Laws.{puts_then, puts_as}
use Rattle.a1writer.proofs.Texts.{reference_text}
use Rattle.a1writer.proofs.put_reference.Goals as goal

pub returns : goal.returns
returns c =
    let room : length c.args.text.now.bytes.now < last = omega arith in
    puts_as
    (puts_then room
    (puts_then room
    (puts_then room (puts_then room c.put_sheet.ensures c.put_mark.ensures) c.put_column.ensures)
    c.put_mark-2.ensures) c.put_decimal.ensures) (reference_text _ _)
