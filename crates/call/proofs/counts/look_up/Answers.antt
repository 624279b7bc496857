use native.Mathlib.Omega.{arith}
use mathlib.Core.Path.{ap, ◌∙◌}
use mathlib.Core.Bool.{and-false}
use lib.ListN.{get_or}
use borrow.Author.Tests.{le-leb, lt-leb}
use Rattle.hits.specs.Hits.{column_in}
use Rattle.call.specs.Tables.{code_named}
use Rattle.call.proofs.Filling.{filled_from, filled_skip, filled_more}
use Rattle.call.proofs.counts.look_up.Goals as goal

pub loop-i-init : goal.loop-i-init
loop-i-init c = (omega arith, omega arith, omega arith, filled_from (λ k h. rw (lt-leb _ k h)))

pub bounds-founds-i : goal.bounds-founds-i
bounds-founds-i c = let l = c.loop-i in omega (arith, l.invariant.3.long)

pub loop-i-preserved-then-range-col : goal.loop-i-preserved-then-range-col
loop-i-preserved-then-range-col c =
    let l = c.loop-i in
    let a = c.args in
    let code = c.code_named-code.ensures ∙ ap (code_named a.codes.now) c.at.ensures in (
      omega arith,
      omega arith,
      omega arith,
      filled_more l.invariant.3 (omega (arith, l.invariant.3.long)) (c.at-then-range-col.ensures ∙ ap (λ n. get_or a.counts.now n 0) code),
    )

pub next_in-next-requires : goal.next_in-next-requires
unfolding column_in
next_in-next-requires c =
    (c.requires.0, omega arith, c.requires.2, c.requires.1, c.if-range-col.false)

pub overflow_sub-gap : goal.overflow_sub-gap
overflow_sub-gap c = omega (arith, c.next_in-next.ensures.0)

pub loop-i-smaller : goal.loop-i-smaller
loop-i-smaller c = omega (arith, c.next_in-next.ensures.0, c.next_in-next.ensures.1)

pub loop-i-preserved : goal.loop-i-preserved
loop-i-preserved c =
    let l = c.loop-i in (
      omega arith,
      omega (arith, c.next_in-next.ensures.0),
      c.next_in-next.ensures.1,
      filled_skip l.invariant.3 c.next_in-next.result (λ k p q. rw (c.next_in-next.ensures.2 k p q, and-false)),
    )

pub returns : goal.returns
returns c =
    let l = c.loop-i in
    let a = c.args in
    λ i h k inside. l.invariant.3.filled i (omega arith) (rw (le-leb a.regions.from i h, inside))
