use native.Mathlib.Omega.{arith}
use lib.ListN.{length}
use Rattle.call.proofs.Putting.{by_begun}
use Rattle.call.proofs.Listing.{back_turn, back_ended}
use Rattle.call.proofs.picked.put_back.Goals as goal

pub loop-k-init : goal.loop-k-init
loop-k-init c = by_begun

pub loop-k-preserved : goal.loop-k-preserved
loop-k-preserved c = back_turn c.loop-k.invariant (omega arith)

pub returns : goal.returns
returns c = back_ended c.loop-k.invariant (length c.args.hits.now) (c.fill.ensures.after (λ y h. h)) (omega arith) (omega arith)
