use Prim.Native.Nat.{◌<◌}
use native.Mathlib.Omega.{arith}
use lib.ListN.{length}
use Rattle.keys.proofs.Holding.{named_begun, named_more, named_ended}
use Rattle.keys.proofs.coding.pairwise.Goals as goal

pub loop-i-init : goal.loop-i-init
loop-i-init c ks v e = named_begun

pub loop-i-preserved : goal.loop-i-preserved
loop-i-preserved c ks v e =
    let h : c.loop-i.i < length ks = omega (arith, e, c.loop-i-test.true) in
    named_more (c.loop-i.invariant ks v e) h (omega arith) (c.name_at.ensures ks v h)

pub returns : goal.returns
returns c ks v e = named_ended (c.loop-i.invariant ks v e) (omega (arith, e, c.loop-i-test.false))
