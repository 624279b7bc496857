-- `sheetwriter::put_bits` meets its contract: the letter, the digits, then the end of the line. Assumes nothing.
use Prim.Native.Nat.{◌<◌}
use native.Mathlib.Omega.{arith}
use lib.ListN.{length}
use Rattle.put.specs.Put.{last}
use Rattle.put.proofs.Laws.{puts_then}
use Rattle.sheetwriter.proofs.put_bits.Goals as goal

pub returns : goal.returns
returns c =
    let room : length c.args.text.now.bytes.now < last = omega arith in
    puts_then room (puts_then room c.put_byte.ensures c.put_hex.ensures) c.put_byte-2.ensures
