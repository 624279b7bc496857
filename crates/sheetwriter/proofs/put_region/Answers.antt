-- `sheetwriter::put_region` meets its contract: row and column. Assumes nothing.
use Prim.Native.Nat.{◌<◌}
use native.Mathlib.Omega.{arith}
use lib.ListN.{length}
use Rattle.jobtext.specs.Text.{region_line}
use Rattle.put.specs.Put.{last}
use Rattle.put.proofs.Laws.{puts_then, puts_as}
use Rattle.sheetwriter.proofs.put_region.Goals as goal

pub returns : goal.returns
unfolding region_line
returns c =
    let room : length c.args.text.now.bytes.now < last = omega arith in
    puts_as (puts_then room c.put_number.ensures c.put_number-2.ensures)
    (rw (c.at.ensures, c.at-2.ensures))
