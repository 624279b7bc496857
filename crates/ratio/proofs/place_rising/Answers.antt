-- `ratio::place_rising` meets its contract: the low end and the span of the lower half, and of the upper. Assumes nothing.
use mathlib.Core.Path.{◌≡◌}
use mathlib.Core.Bool.{true, cond}
use Prim.Native.Nat.{◌≤◌}
use native.Mathlib.Omega.{arith}
use lib.Ieee.{le}
use Rattle.ratio.proofs.Held.{spanned_at_most}
use Rattle.ratio.proofs.Among.{one_place}
use Rattle.ratio.proofs.place_rising.Goals as goal
use Rattle.ratio.proofs.place_rising.Goals.{else-x-midpoint, else-x-midpoint-2, else-x-midpoint-3, then-x-midpoint, then-x-midpoint-2, then-x-midpoint-3}

pub overflow_add-result : goal.overflow_add-result
overflow_add-result c =
    let m : c.if-x-midpoint-3.more ≤ 1_000_000 = (elim c.if-x-midpoint-3.branch [ then-x-midpoint-3 w ↦ omega arith | else-x-midpoint-3 w ↦ omega arith ]) in
    let most = spanned_at_most c.args.x c.if-x-midpoint.low c.if-x-midpoint-2.span in
    omega (arith, c.place_in.ensures, most)

pub returns : goal.returns
returns c =
    let a = c.args in
    let l : c.if-x-midpoint.low ≡ cond (le a.x a.midpoint) a.least a.midpoint =
    (elim c.if-x-midpoint.branch [ then-x-midpoint w ↦ rw (w.if-x-midpoint.true, w.low-is) | else-x-midpoint w ↦ rw (w.if-x-midpoint.false, w.low-is) ]) in
    let s : c.if-x-midpoint-2.span ≡ cond (le a.x a.midpoint) a.lower a.upper =
    (elim c.if-x-midpoint-2.branch [ then-x-midpoint-2 w ↦ rw (w.if-x-midpoint-2.true, w.span-is) | else-x-midpoint-2 w ↦ rw (w.if-x-midpoint-2.false, w.span-is) ]) in
    let m : c.if-x-midpoint-3.more ≡ cond (le a.x a.midpoint) 0 1_000_000 =
    (elim c.if-x-midpoint-3.branch [ then-x-midpoint-3 w ↦ let t : le a.x a.midpoint ≡ true = w.if-x-midpoint-3.true in rw (t, w.more-is) | else-x-midpoint-3 w ↦ rw (w.if-x-midpoint-3.false, w.more-is) ]) in
    rw (c.place_in.ensures, l, s, m) (one_place (le a.x a.midpoint) a.x a.least a.midpoint a.lower a.upper)
