use Prim.Native.Nat.{◌+◌, ◌≤◌, ◌<◌}
use native.Mathlib.Omega.{arith}
use lib.ListN.{length}
use Rattle.call.proofs.Putting.{by_begun, by_turns, by_ended}
use Rattle.call.proofs.Scaling.{part_long, part_below}
use Rattle.call.proofs.scales.put_scale3.Goals as goal
use Rattle.call.proofs.scales.put_scale3.Goals.{After-row_known-1, else-end-k-lt64, then-end-k-lt64}

pub loop-k-init : goal.loop-k-init
loop-k-init c = by_begun

pub overflow_add-to : goal.overflow_add-to
overflow_add-to c = omega (arith, c.space_for-end.ensures, c.if-end-k-lt64.false)

-- a turn takes some marks, at most 64, for which there is space
taken : (c : After-row_known-1) → let k = c.loop-k.k in
    (k < c.if-end-k-lt64.to) × (c.if-end-k-lt64.to ≤ c.space_for-end.result) × (c.if-end-k-lt64.to ≤ k + 64)
taken c =
    (elim c.if-end-k-lt64.branch [ then-end-k-lt64 w ↦ (omega arith, omega arith, omega arith) | else-end-k-lt64 w ↦ (omega arith, omega arith, omega arith) ])

inside : (c : After-row_known-1)
    → c.if-end-k-lt64.to ≤ length c.args.hits.now
inside c = omega (arith, (taken c).1, c.space_for-end.ensures)

pub slice_bounds-put_some3-count : goal.slice_bounds-put_some3-count
slice_bounds-put_some3-count c = omega (arith, (taken c).0)

pub slice_bounds-put_some3-start : goal.slice_bounds-put_some3-start
slice_bounds-put_some3-start c = omega (arith, (taken c).0, inside c)

pub slice_bounds-put_some3-end : goal.slice_bounds-put_some3-end
slice_bounds-put_some3-end c = omega (arith, (taken c).0, inside c)

pub overflow_add-n : goal.overflow_add-n
overflow_add-n c = omega (arith, (taken (goal.at.overflow_add-n c).After-row_known-1).0, (taken (goal.at.overflow_add-n c).After-row_known-1).1, c.space_for-end.ensures)

pub put_some3-requires : goal.put_some3-requires
put_some3-requires c =
    let some : c.loop-k.k ≤ c.if-end-k-lt64.to = omega (arith, (taken (goal.at.put_some3-requires c).After-row_known-1).0) in
    let hits = c.args.hits.now in record {
      by_index = part_below hits some (inside (goal.at.put_some3-requires c).After-row_known-1) c.requires;
      hits_len_bound = omega (arith, part_long hits some (inside (goal.at.put_some3-requires c).After-row_known-1), (taken (goal.at.put_some3-requires c).After-row_known-1).2);
    }

pub loop-k-smaller : goal.loop-k-smaller
loop-k-smaller c = omega (arith, (taken (goal.at.loop-k-smaller c).After-row_known-1).0, (taken (goal.at.loop-k-smaller c).After-row_known-1).1)

pub loop-k-preserved : goal.loop-k-preserved
loop-k-preserved c =
    let some : c.loop-k.k ≤ c.if-end-k-lt64.to = omega (arith, (taken (goal.at.loop-k-preserved c).After-row_known-1).0) in
    rw c.put_some3.ensures (by_turns c.loop-k.invariant some (inside (goal.at.loop-k-preserved c).After-row_known-1))

pub returns : goal.returns
returns c = by_ended c.loop-k.invariant c.space_for-end.ensures c.loop-k-test.false
