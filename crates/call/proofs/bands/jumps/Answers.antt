-- `call::bands::jumps` meets its contract. Assumes nothing.
use Prim.Native.Nat.{◌+◌, ◌-◌}
use native.Mathlib.Omega.{arith}
use mathlib.Core.Bool.{false≢true}
use Rattle.turns.proofs.Bands.{rows_rise}
use Rattle.call.proofs.Jumping.{jump_told}
use Rattle.call.proofs.bands.jumps.Goals as goal

pub returns-then-gap-eq0 : goal.returns-then-gap-eq0
returns-then-gap-eq0 c e = absurd (false≢true e)

pub returns-then-gap-to : goal.returns-then-gap-to
returns-then-gap-to c e = absurd (false≢true e)

pub overflow_sub-down : goal.overflow_sub-down
overflow_sub-down c =
    rows_rise c.args.rows.now c.args.cols.now c.requires.0 _ _ (omega arith) (omega arith)

pub returns : goal.returns
returns c e =
    let told = jump_told c.args.rows.now c.args.cols.now c.requires.0 c.args.range c.args.i
    (c.args.i + c.args.gap - 1) (omega arith) c.requires.4 (omega arith) e in
    (omega arith, omega arith, λ k a b. told k a (omega arith))
