use native.Mathlib.Omega.{arith}
use Rattle.a1writer.proofs.Doubled.{doubling_begun, doubling_quote, doubling_other, doubling_done}
use Rattle.a1writer.proofs.put_doubled.Goals as goal
use Rattle.a1writer.proofs.put_doubled.Goals.{else-quote, then-quote}

pub loop-b-init : goal.loop-b-init
loop-b-init c = doubling_begun c.requires

pub loop-b-preserved : goal.loop-b-preserved
loop-b-preserved c =
    let left = c.loop-b.invariant in
    let second = c.put_byte-in-loop-b.ensures in
    (elim c.if-quote.branch [
      | then-quote w ↦ doubling_quote left (omega arith) c.loop-b-test.true w.if-quote.true w.put_byte.ensures (rw w.text-is at second)
      | else-quote w ↦ doubling_other left (omega arith) c.loop-b-test.true w.if-quote.false (rw w.text-is at second)
    ])

pub returns : goal.returns
returns c = doubling_done c.loop-b.invariant c.loop-b-test.false
