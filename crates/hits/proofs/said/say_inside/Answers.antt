use native.Mathlib.Omega.{arith}
use Rattle.hits.proofs.Bytes.{inside_byte}
use Rattle.hits.proofs.Stored.{stored_none, stored_more}
use Rattle.hits.proofs.said.say_inside.Goals as goal

pub loop-i-init : goal.loop-i-init
loop-i-init c = stored_none _ _ _

pub loop-i-preserved : goal.loop-i-preserved
loop-i-preserved c =
    stored_more _ _ _ _ _ _ c.loop-i-test.true c.requires (inside_byte _ _ _) c.loop-i.invariant

pub returns : goal.returns
returns c i h = c.loop-i.invariant.each i (omega arith)
