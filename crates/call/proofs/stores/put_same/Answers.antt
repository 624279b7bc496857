use mathlib.Core.Path.{sym}
use native.Mathlib.Omega.{arith}
use lib.ListN.{length-replicate, get_or-replicate}
use Rattle.call.proofs.Putting.{put_turn, put_ended}
use Rattle.call.proofs.stores.put_same.Goals as goal

pub loop-k-preserved : goal.loop-k-preserved
loop-k-preserved c =
    let a = c.args in
    put_turn c.loop-k.invariant 0 (omega (arith, length-replicate a.count a.value))
    (sym (get_or-replicate a.count _ a.value 0 (omega arith)))

pub returns : goal.returns
returns c = put_ended c.loop-k.invariant (simp length-replicate c.space_for-end.ensures) c.loop-k-test.false
