use native.Mathlib.Omega.{arith}
use borrow.Author.Count.{below_none, below_more}
use borrow.Author.Tests.{ne_eqb}
use Rattle.hits.specs.Hits.{column_in}
use Rattle.hits.proofs.first_unresolved.Goals as goal

pub returns-then-not-any_unresolved : goal.returns-then-not-any_unresolved
returns-then-not-any_unresolved c = λ i h. rw (ne_eqb _ 2 (c.any_unresolved.ensures c.if-not-any_unresolved.true i h))

pub loop-i-init : goal.loop-i-init
loop-i-init c = below_none _

pub returns-then-said-i : goal.returns-then-said-i
unfolding column_in
returns-then-said-i c = (c.loop-i-test.true, c.loop-i.invariant, c.if-said-i.true)

pub loop-i-preserved : goal.loop-i-preserved
unfolding column_in
loop-i-preserved c = below_more _ c.loop-i.i c.loop-i.invariant c.if-said-i.false

pub returns : goal.returns
returns c = λ i h. c.loop-i.invariant i (omega arith)
