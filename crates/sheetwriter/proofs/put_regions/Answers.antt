-- `sheetwriter::put_regions` meets its contract: the line of names, then the lines of the regions. Assumes nothing.
use Prim.Native.Nat.{◌<◌}
use native.Mathlib.Omega.{arith}
use lib.ListN.{length}
use Rattle.grammar.specs.Parts.{bytes}
use Rattle.put.specs.Put.{last}
use Rattle.put.proofs.Laws.{puts_then, laid_ready}
use Rattle.sheetwriter.proofs.put_regions.Goals as goal

pub put_region_lines-requires : goal.put_region_lines-requires
put_region_lines-requires c =
    laid_ready c.put_bytes.ensures.laid (omega arith)

pub returns : goal.returns
unfolding bytes
returns c =
    let room : length c.args.text.now.bytes.now < last = omega arith in
    puts_then room c.put_bytes.ensures c.put_region_lines.ensures
