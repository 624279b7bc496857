use native.Mathlib.Nat.{le_refl}
use native.Mathlib.Omega.{arith}
use mathlib.Core.Path.{◌∙◌}
use Rattle.hits.specs.Hits.{column_in}
use Rattle.hits.specs.Chosen.{stands}
use Rattle.hits.proofs.Bytes.{byte_is}
use Rattle.hits.proofs.Stored.{replaced_none, replaced_more}
use Rattle.hits.proofs.choose.Goals as goal

pub loop-i-init : goal.loop-i-init
loop-i-init c = replaced_none _ _

pub loop-i-preserved : goal.loop-i-preserved
unfolding column_in
loop-i-preserved c =
    let l = c.loop-i in
    let a = c.args in
    let byte = byte_is (stands 1 a.range a.flags.now a.cols.now l.said l.i) in
    replaced_more _ _ _ _ _ (omega (arith, l.invariant.done.long)) (byte ∙ rw (l.invariant.left l.i (le_refl l.i))) l.invariant

pub returns : goal.returns
returns c i h = c.loop-i.invariant.done.each i (omega (arith, c.loop-i.invariant.done.long))
