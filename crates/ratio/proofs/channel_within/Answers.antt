-- `ratio::channel_within` meets its contract, by the law `within` of proofs/Between.antt. Assumes nothing.
use Prim.Native.Nat.{◌+◌, ◌-◌, ◌*◌, ◌≤◌}
use native.Mathlib.Omega.{arith}
use Rattle.ratio.proofs.Between.{product, Within, within}
use Rattle.ratio.proofs.channel_within.Goals as goal
use Rattle.ratio.proofs.channel_within.Goals.{Start}

-- the product is at most a million for each step
most : (c : Start) → let a = c.args in (a.end + 256 - a.start) * a.ppm ≤ (a.end + 256 - a.start) * 1_000_000
most c = product (c.args.end + 256 - c.args.start) c.args.ppm c.requires

pub overflow_mul-result : goal.overflow_mul-result
overflow_mul-result c = omega (arith, most c)

pub overflow_add-result : goal.overflow_add-result
overflow_add-result c = omega (arith, most c)

at : (c : Start) → let a = c.args in Within a.start a.end a.ppm
at c = within c.args.start c.args.end c.args.ppm (omega arith) (omega arith) c.requires

pub overflow_sub-result : goal.overflow_sub-result
overflow_sub-result c = (at c).enough

pub overflow_cast-result : goal.overflow_cast-result
overflow_cast-result c = omega (arith, (at c).small)

pub returns : goal.returns
returns c = (at c).is
