-- `fields::hex_digits`: the digits read so far leave room for one more, and pass on to it. Assumes nothing.
use mathlib.Core.Path.{sym, ◌∙◌}
use native.Mathlib.Omega.{arith}
use Rattle.fields.proofs.Hexadecimals.{digit_got, hex_next, hex_fits, hex_grown}
use Rattle.fields.proofs.hex_digits.Goals as goal

pub overflow_mul-value : goal.overflow_mul-value
overflow_mul-value c =
    omega (arith, hex_fits c.loop.value 0 c.loop.counter c.args.number (omega arith) (omega arith) c.loop.invariant.1 (omega arith))

pub overflow_add-value : goal.overflow_add-value
overflow_add-value c =
    let d = (digit_got _ c.in-Some.ensures).1 in
    omega (arith, hex_fits c.loop.value c.from.result c.loop.counter c.args.number (omega arith) (omega arith) c.loop.invariant.1 (omega arith))

pub loop-preserved : goal.loop-preserved
loop-preserved c =
    let d = (digit_got _ c.in-Some.ensures).1 in (
      rw c.from.ensures
          (sym (hex_next _ _ _ c.loop.counter _ (omega arith) (omega arith) c.in-Some.ensures) ∙ c.loop.invariant.0),
      hex_grown c.loop.value c.from.result c.loop.counter c.loop.invariant.1 (omega arith),
    )
