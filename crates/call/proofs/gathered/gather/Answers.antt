use native.Mathlib.Omega.{arith}
use mathlib.Core.Path.{refl, ◌∙◌}
use lib.Ieee.{nan, eq}
use lib.ListN.{get_or, length-set}
use Rattle.cells.specs.Columns.{columns}
use Rattle.hits.specs.Hits.{column_in}
use Rattle.ranges.proofs.Laws.{byte_few}
use Rattle.call.proofs.Gathering.{gathering_begun, gathering_turn, gathering_skip, gathering_ended}
use Rattle.call.proofs.gathered.gather.Goals as goal

pub loop-i-init : goal.loop-i-init
loop-i-init c =
    (omega arith, omega arith, omega arith, omega arith, refl, λ kinds wraps nums ats lens b n. gathering_begun _ b)

pub overflow_add-count : goal.overflow_add-count
overflow_add-count c =
    let l = c.loop-i in
    let x = get_or c.args.floats.now l.i nan in
    omega (arith, byte_few (eq x x))

pub loop-i-preserved-then-range-col : goal.loop-i-preserved-then-range-col
unfolding column_in
loop-i-preserved-then-range-col c =
    let l = c.loop-i in
    let a = c.args in
    let x = get_or a.floats.now l.i nan in (
      omega arith,
      omega arith,
      omega arith,
      omega (arith, byte_few (eq x x)),
      length-set l.values l.count x ∙ l.invariant.4,
      λ kinds wraps nums ats lens b n.
          gathering_turn (columns a.rows.now a.cols.now kinds wraps nums ats lens) b a.floats.now n l.i (omega arith)
          (omega arith) c.if-range-col.true (l.invariant.5 kinds wraps nums ats lens b n) (omega arith),
    )

pub next_in-next-requires : goal.next_in-next-requires
unfolding column_in
next_in-next-requires c =
    (c.requires.0, omega arith, c.requires.3, c.requires.1, c.if-range-col.false)

pub overflow_sub-gap : goal.overflow_sub-gap
overflow_sub-gap c = omega (arith, c.next_in-next.ensures.0)

pub loop-i-smaller : goal.loop-i-smaller
loop-i-smaller c = omega (arith, c.next_in-next.ensures.0, c.next_in-next.ensures.1)

pub loop-i-preserved : goal.loop-i-preserved
loop-i-preserved c =
    let l = c.loop-i in (
      omega arith,
      omega (arith, c.next_in-next.ensures.0),
      c.next_in-next.ensures.1,
      omega (arith, c.next_in-next.ensures.0),
      l.invariant.4,
      λ kinds wraps nums ats lens b n.
          gathering_skip _ b l.i c.next_in-next.result (omega arith) (omega (arith, c.next_in-next.ensures.0)) c.next_in-next.ensures.1 c.next_in-next.ensures.2
          (l.invariant.5 kinds wraps nums ats lens b n),
    )

pub returns : goal.returns
returns c =
    let l = c.loop-i in record {
      few = omega arith;
      values = λ kinds wraps nums ats lens b n. gathering_ended _ b (l.invariant.5 kinds wraps nums ats lens b n) (omega arith);
    }
