use native.Mathlib.Omega.{arith}
use mathlib.Core.Path.{◌≡◌, ap, ◌∙◌}
use lib.ListN.{get_or}
use Rattle.hits.specs.Hits.{column_in}
use Rattle.call.specs.Tables.{coded_from}
use Rattle.call.proofs.Counting.{counting_begun, counting_turn, counting_skip, coded_band}
use Rattle.call.proofs.counts.count_codes.Goals as goal

pub loop-i-init : goal.loop-i-init
loop-i-init c =
    (omega arith, omega arith, omega arith, counting_begun _ c.requires.by_index.1)

pub overflow_cast-code : goal.overflow_cast-code
overflow_cast-code c = omega (arith, c.type_inv.codes c.loop-i.i)

pub offset_bounds-counts-code : goal.offset_bounds-counts-code
offset_bounds-counts-code c = omega (arith, c.type_inv.codes c.loop-i.i)

pub bounds-counts-code : goal.bounds-counts-code
bounds-counts-code c =
    let l = c.loop-i in
    omega (arith, c.requires.by_index.0 l.i, l.invariant.3.long)

pub overflow_add-counts : goal.overflow_add-counts
overflow_add-counts c =
    let l = c.loop-i in
    let a = c.args in
    omega (arith, l.invariant.3.few (get_or a.codes.now l.i 0))

pub offset_bounds-counts-code-then-range-col : goal.offset_bounds-counts-code-then-range-col
offset_bounds-counts-code-then-range-col c = (omega (arith, c.type_inv.codes c.loop-i.i))

pub bounds-counts-code-then-range-col : goal.bounds-counts-code-then-range-col
bounds-counts-code-then-range-col c = (let l = c.loop-i in
    omega (arith, c.requires.by_index.0 l.i, l.invariant.3.long))

pub loop-i-preserved-then-range-col : goal.loop-i-preserved-then-range-col
unfolding column_in
loop-i-preserved-then-range-col c =
    let l = c.loop-i in (
      omega arith,
      omega arith,
      omega arith,
      counting_turn l.invariant.3 (c.requires.by_index.0 l.i) c.if-range-col.true (omega arith) (omega arith),
    )

pub next_in-next-requires : goal.next_in-next-requires
unfolding column_in
next_in-next-requires c =
    (c.requires.cols_value.0, omega arith, c.requires.cols_value.2, c.requires.cols_value.1, c.if-range-col.false)

pub overflow_sub-gap : goal.overflow_sub-gap
overflow_sub-gap c = omega (arith, c.next_in-next.ensures.0)

pub loop-i-smaller : goal.loop-i-smaller
loop-i-smaller c = omega (arith, c.next_in-next.ensures.0, c.next_in-next.ensures.1)

pub loop-i-preserved : goal.loop-i-preserved
loop-i-preserved c =
    let l = c.loop-i in
    (omega arith, omega (arith, c.next_in-next.ensures.0), c.next_in-next.ensures.1, counting_skip l.invariant.3 _ (omega arith) (omega (arith, c.next_in-next.ensures.0)) c.next_in-next.ensures.1 c.next_in-next.ensures.2)

pub returns : goal.returns
returns c =
    let l = c.loop-i in
    let a = c.args in
    let end : l.i ≡ a.band.to = omega arith in
    λ band code h.
    l.invariant.3.counted _ band code h
    ∙ ap (coded_from a.range a.rows.now a.cols.now a.codes.now code 0) end
    ∙ coded_band a.range a.rows.now a.cols.now a.codes.now code band
