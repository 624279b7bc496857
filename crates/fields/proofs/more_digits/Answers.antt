use mathlib.Core.Path.{◌≡◌, sym, ap, ◌∙◌}
use native.Mathlib.Omega.{arith}
use Prim.Native.Nat.{◌+◌, ◌-◌, ◌*◌, ◌<◌}
use lib.ListN.{length, get_or}
use Rattle.fields.specs.Field.{field_of}
use Rattle.fields.proofs.Laws.{more_ended, more_other, more_over, more_next}
use Rattle.fields.proofs.more_digits.Goals as goal
use Rattle.fields.proofs.more_digits.Goals.{then-limit-value-via-then-limit-value, then-limit-value-via-else-limit-value+then-limit-value-2}

pub returns-then-not-is_ascii_digit : goal.returns-then-not-is_ascii_digit
returns-then-not-is_ascii_digit c =
    ap field_of (sym (more_other _ _ _ _ (omega arith) (sym c.is_ascii_digit.ensures.value ∙ c.if-not-is_ascii_digit.true))
    ∙ c.loop-i.invariant)

pub returns-then-limit-value : goal.returns-then-limit-value
returns-then-limit-value c =
    let over : c.args.limit < c.loop-i.value * 10 + (get_or c.args.s.now c.loop-i.i 0 - 48) =
    elim c.then-limit-value.branch [
      | then-limit-value-via-then-limit-value w ↦ omega arith
      | then-limit-value-via-else-limit-value+then-limit-value-2 w ↦ omega arith
    ] in
    ap field_of (sym (more_over _ _ _ _ (omega arith) (sym c.is_ascii_digit.ensures.value ∙ c.if-not-is_ascii_digit.false) over)
    ∙ c.loop-i.invariant)

pub loop-i-preserved : goal.loop-i-preserved
loop-i-preserved c =
    rw c.from-digit.ensures
    (sym (more_next _ _ _ _ (omega arith) (sym c.is_ascii_digit.ensures.value ∙ c.if-not-is_ascii_digit.false) (omega arith))
    ∙ c.loop-i.invariant)

pub returns : goal.returns
returns c =
    let e : c.loop-i.i ≡ length c.args.s.now = omega arith in
    rw (← e) (ap field_of (sym (more_ended _ _ _ _ (omega arith)) ∙ c.loop-i.invariant))
