use native.Mathlib.Omega.{arith}
use mathlib.Core.Logic.{inl, inr}
use lib.Ieee.{nan}
use lib.ListN.{get_or}
use Rattle.hits.proofs.Bytes.{between_byte}
use Rattle.hits.proofs.Stored.{stored_none, stored_more}
use Rattle.hits.proofs.said.say_between.Goals as goal
use Rattle.hits.proofs.said.say_between.Goals.{then-missing, else-missing}

pub loop-i-init : goal.loop-i-init
loop-i-init c = stored_none _ _ _

pub loop-i-preserved : goal.loop-i-preserved
loop-i-preserved c =
    let a = c.args in
    let i = c.loop-i.i in
    stored_more _ _ _ _ _ _ c.loop-i-test.true c.requires.2
    (between_byte a.inside (get_or a.values.now i nan) (get_or a.lows.now i nan) (get_or a.highs.now i nan) _
    (elim c.if-missing.branch [ then-missing w ↦ inl (w.if-missing.true, w.said-is) | else-missing w ↦ inr (w.if-missing.false, w.said-is) ]))
    c.loop-i.invariant

pub returns : goal.returns
returns c i h = c.loop-i.invariant.each i (omega arith)
