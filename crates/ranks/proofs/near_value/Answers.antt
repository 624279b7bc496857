use Rattle.std.proofs.Common.{◌≤◌, arith}
use Rattle.ranks.proofs.Counting.{kth_told}
use Rattle.ranks.proofs.Finite.{all_finite_lem}
use Rattle.ranks.proofs.Halving.{halved_begins, halved_up, halved_past, halved_down, halved_ends}
use Rattle.ranks.proofs.near_value.Goals as goal
use Rattle.ranks.proofs.near_value.Goals.{then-valued, else-valued, then-k-less, else-k-less+then-valued-2+else-k-span, else-k-less+else-valued-2}

pub halving-init : goal.halving-init
halving-init c = let p = c.requires in halved_begins _ _ (all_finite_lem _ p.values_value) p.k_in_bounds

pub overflow_sub-span : goal.overflow_sub-span
overflow_sub-span c = omega (arith, c.halving.invariant.apart)

pub overflow_add-first : goal.overflow_add-first
overflow_add-first c = record { fits = omega (arith, c.halving-test.true, c.halving.invariant.high) }

pub between-mid-requires : goal.between-mid-requires
between-mid-requires c =
    elim c.if-valued.branch [ then-valued w ↦ omega (arith, c.halving-test.true) | else-valued w ↦ omega (arith, c.halving-test.true) ]

pub overflow_add-span : goal.overflow_add-span
overflow_add-span c = record { fits = omega (arith, c.between-mid.ensures.1, c.halving.invariant.high) }

pub returns-then-k-span : goal.returns-then-k-span
returns-then-k-span c =
    let t = c.of_key-t.result in
    kth_told _ c.args.k (all_finite_lem _ c.requires.values_value) c.requires.k_in_bounds t
    (omega (arith, c.count_below-less.ensures, c.if-k-less.false))
    (omega (arith, c.count_up_to.ensures, c.if-k-span.true))

pub halving-preserved : goal.halving-preserved
halving-preserved c =
    let b = c.between-mid in
    let l = c.halving in
    let f = all_finite_lem _ c.requires.values_value in
    let h = c.requires.k_in_bounds in
    let t = c.of_key-t.ensures in
    let less = c.count_below-less.ensures in
    let from : l.span.lo ≤ c.if-valued.first =
    elim c.if-valued.branch [ then-valued w ↦ omega arith | else-valued w ↦ omega arith ] in
    let up : l.span.lo ≤ b.result = omega (arith, from, b.ensures.0) in
    elim c.if-k-less.branch [
      | then-k-less w ↦ rw w.span-is
          (halved_down _ _ f h l.span.lo l.span.hi b.result l.invariant up b.ensures.1 (rw (← t, ← less) w.if-k-less.true))
      | else-k-less+then-valued-2+else-k-span w ↦ rw w.span-is
          (halved_past _ _ f h l.span.lo l.span.hi b.result l.invariant up b.ensures.1
          (rw (← t, ← less) w.if-k-less.false) (rw (← t, ← w.count_up_to.ensures) w.if-k-span.false)
          c.type_inv.values)
      | else-k-less+else-valued-2 w ↦ rw w.span-is
          (halved_up _ _ f h l.span.lo l.span.hi b.result l.invariant up b.ensures.1 (rw (← t, ← less) w.if-k-less.false))
    ]

pub returns : goal.returns
returns c =
    let l = c.halving in
    let p = c.requires in
    rw c.of_key.ensures
    (halved_ends _ _ (all_finite_lem _ p.values_value) p.k_in_bounds l.span.lo l.span.hi l.invariant c.halving-test.false c.type_inv.values)
