use native.Mathlib.Omega.{arith}
use Rattle.hits.specs.Hits.{column_in}
use Rattle.call.proofs.Listing.{listed_begun, listed_more, listed_skip, listed_ended}
use Rattle.call.proofs.picked.list_in.Goals as goal

pub loop-i-init : goal.loop-i-init
loop-i-init c = listed_begun (omega arith)

pub bounds-cols-i : goal.bounds-cols-i
bounds-cols-i c = omega arith

pub overflow_add-result : goal.overflow_add-result
overflow_add-result c = omega arith

pub returns-then-count-list : goal.returns-then-count-list
returns-then-count-list c h = let v = c.loop-i.invariant in absurd (omega (arith, v.long))

pub overflow_cast-list : goal.overflow_cast-list
overflow_cast-list c = omega arith

pub offset_bounds-list-count : goal.offset_bounds-list-count
offset_bounds-list-count c = omega arith

pub bounds-list-count : goal.bounds-list-count
bounds-list-count c = omega arith

pub overflow_add-count : goal.overflow_add-count
overflow_add-count c = omega arith

pub overflow_add-i : goal.overflow_add-i
overflow_add-i c = omega arith

pub loop-i-smaller-then-range-col : goal.loop-i-smaller-then-range-col
loop-i-smaller-then-range-col c = omega arith

pub loop-i-preserved-then-range-col : goal.loop-i-preserved-then-range-col
unfolding column_in
loop-i-preserved-then-range-col c =
    listed_more c.loop-i.invariant (omega arith) (omega arith) c.if-range-col.true

pub next_in-next-requires : goal.next_in-next-requires
unfolding column_in
next_in-next-requires c =
    (c.requires.0, omega arith, omega arith, omega arith, c.if-range-col.false)

pub overflow_sub-gap : goal.overflow_sub-gap
overflow_sub-gap c = omega arith

pub loop-i-smaller : goal.loop-i-smaller
loop-i-smaller c = omega arith

pub loop-i-preserved : goal.loop-i-preserved
loop-i-preserved c =
    listed_skip c.loop-i.invariant _ c.next_in-next.ensures.0 c.next_in-next.ensures.1 c.next_in-next.ensures.2

pub returns : goal.returns
returns c h = listed_ended c.loop-i.invariant (omega arith)
