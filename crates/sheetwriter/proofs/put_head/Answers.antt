-- `sheetwriter::put_head` meets its contract: the line of names, the five numbers, then the name. Assumes nothing.
use Prim.Native.Nat.{◌<◌}
use native.Mathlib.Omega.{arith}
use lib.ListN.{length}
use Rattle.grammar.specs.Parts.{bytes}
use Rattle.put.specs.Put.{last}
use Rattle.put.proofs.Laws.{puts_then, puts_as}
use Rattle.sheetwriter.proofs.Lines.{head_joined}
use Rattle.sheetwriter.proofs.put_head.Goals as goal

pub returns : goal.returns
unfolding bytes
returns c =
    let room : length c.args.text.now.bytes.now < last = omega arith in
    puts_as (
    puts_then room (
    puts_then room (
    puts_then room (
    puts_then room (
    puts_then room (puts_then room c.put_bytes.ensures c.put_number.ensures) c.put_number-2.ensures)
    c.put_number-3.ensures)
    c.put_number-4.ensures)
    c.put_number-5.ensures)
    c.put_text.ensures)
    (head_joined _ _ _ _ _ c.text_at.ensures)
