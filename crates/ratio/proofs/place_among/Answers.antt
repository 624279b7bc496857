-- `ratio::place_among` meets its contract: the ratio of the lower half, and that of the upper. Assumes nothing.
use native.Mathlib.Omega.{arith}
use Rattle.ratio.proofs.Held.{ratio_at_most}
use Rattle.ratio.proofs.place_among.Goals as goal

pub returns-then-x-midpoint : goal.returns-then-x-midpoint
returns-then-x-midpoint c = rw c.if-x-midpoint.true c.normalized_ppm.ensures

pub overflow_add-result : goal.overflow_add-result
overflow_add-result c =
    let a = c.args in
    omega (arith, c.normalized_ppm-2.ensures, ratio_at_most a.x a.midpoint a.greatest)

pub returns : goal.returns
returns c = rw c.if-x-midpoint.false (omega (arith, c.normalized_ppm-2.ensures))
