-- `ratio::channel_among` meets its contract, by the law `among` of proofs/Among.antt. Assumes nothing.
use Prim.Native.Nat.{◌+◌, ◌-◌, ◌*◌, ◌≤◌}
use native.Mathlib.Omega.{arith}
use Rattle.ratio.proofs.Between.{product}
use Rattle.ratio.proofs.Among.{Among, among}
use Rattle.ratio.proofs.channel_among.Goals as goal
use Rattle.ratio.proofs.channel_among.Goals.{After-min-lower}

-- each product is at most a million for each step
most : (c : After-min-lower) → let a = c.args in
    (a.middle + 256 - a.first) * c.min-lower.result ≤ (a.middle + 256 - a.first) * 1_000_000
most c = product (c.args.middle + 256 - c.args.first) c.min-lower.result (omega (arith, c.min-lower.ensures))

most_2 : (c : After-min-lower) → let a = c.args in
    (a.last + 256 - a.middle) * (a.place - c.min-lower.result) ≤ (a.last + 256 - a.middle) * 1_000_000
most_2 c =
    let a = c.args in
    let p : a.place ≤ 2_000_000 = c.requires in
    product (a.last + 256 - a.middle) (a.place - c.min-lower.result) (omega (arith, c.min-lower.ensures))

pub overflow_mul-result : goal.overflow_mul-result
overflow_mul-result c = omega (arith, most c)

pub overflow_add-result : goal.overflow_add-result
overflow_add-result c = omega (arith, most c)

pub overflow_sub-result : goal.overflow_sub-result
overflow_sub-result c = omega (arith, c.min-lower.ensures)

pub overflow_mul-result-2 : goal.overflow_mul-result-2
overflow_mul-result-2 c = omega (arith, most_2 c)

pub overflow_add-result-2 : goal.overflow_add-result-2
overflow_add-result-2 c = omega (arith, most c, most_2 c)

at : (c : After-min-lower) → let a = c.args in
    Among a.first a.middle a.last a.place c.min-lower.result
at c =
    let a = c.args in
    among a.first a.middle a.last a.place c.min-lower.result (omega arith) (omega arith) (omega arith)
    c.requires (c.min-lower.ensures)

pub overflow_sub-result-2 : goal.overflow_sub-result-2
overflow_sub-result-2 c = (at c).enough

pub overflow_cast-result : goal.overflow_cast-result
overflow_cast-result c = omega (arith, (at c).small)

pub returns : goal.returns
returns c = (at c).is
