use mathlib.Core.Path.{refl}
use native.Mathlib.Omega.{arith}
use borrow.Author.Tests.{le-leb, lt-leb}
use Rattle.call.proofs.Filling.{filled_from, filled_more}
use Rattle.call.proofs.operands.copy.Goals as goal

pub loop-i-init : goal.loop-i-init
loop-i-init c = filled_from (λ k h. lt-leb _ k h)

pub loop-i-preserved : goal.loop-i-preserved
loop-i-preserved c = filled_more c.loop-i.invariant (omega arith) refl

pub returns : goal.returns
returns c i a b = c.loop-i.invariant.filled i (omega (arith, c.loop-i-test.false)) (le-leb _ i a)
