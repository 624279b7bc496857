use native.Mathlib.Omega.{arith}
use Rattle.a1reader.proofs.Storing.{left_begun, left_quote, left_byte, left_done}
use Rattle.a1reader.proofs.store_name.Goals as goal
use Rattle.a1reader.proofs.store_name.Goals.{then-b-eq39, else-b-eq39}

pub loop-i-init : goal.loop-i-init
loop-i-init c = left_begun _ _ _ _

pub loop-i-preserved : goal.loop-i-preserved
loop-i-preserved c =
    elim c.if-b-eq39.branch [
      | then-b-eq39 w ↦ rw w.q-is (left_quote c.loop-i.invariant (omega arith) c.at-b.ensures w.if-b-eq39.true)
      | else-b-eq39 w ↦ rw w.q-is (left_byte c.loop-i.invariant (omega arith) c.at-b.ensures w.if-b-eq39.false)
    ]

pub returns : goal.returns
returns c = left_done c.loop-i.invariant (omega arith)
