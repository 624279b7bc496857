use native.Mathlib.Omega.{arith}
use borrow.Author.Count.{below_none, below_more}
use borrow.Author.Tests.{eqb-false}
use Rattle.hits.proofs.Hitting.{neither}
use Rattle.hits.proofs.any_unresolved.Goals as goal

pub loop-byte-init : goal.loop-byte-init
loop-byte-init c = λ e. below_none _

pub loop-byte-preserved : goal.loop-byte-preserved
loop-byte-preserved c =
    let l = c.loop-byte in
    λ e. let told = neither _ _ e in below_more _ l.byte-index (l.invariant told.0) (eqb-false _ _ told.1)

pub returns : goal.returns
returns c = λ e j h. c.loop-byte.invariant e j (omega arith)
