-- `report::put_mark` meets its contract: region, rule and paint, with its shape if the table says so. Assumes nothing.
use Prim.Native.Nat.{◌<◌}
use native.Mathlib.Omega.{arith}
use mathlib.Core.List.{append_assoc}
use lib.ListN.{length}
use Rattle.put.specs.Put.{last}
use Rattle.put.proofs.Laws.{puts_then, puts_as}
use Rattle.reporttext.specs.Report.{mark_line}
use Rattle.report.proofs.put_mark.Goals as goal

pub returns : goal.returns
unfolding mark_line
returns c =
    let room : length c.args.text.now.bytes.now < last = omega arith in
    puts_as (puts_then room (puts_then room c.put_number.ensures c.put_number-2.ensures) c.put_paint.ensures)
    (rw c.is_shaped.ensures (simp append_assoc))
