use mathlib.Core.Path.{sym, ◌∙◌}
use native.Mathlib.Omega.{arith}
use Rattle.call.proofs.Seeking.{parted_begun, parted_up, parted_down}
use Rattle.call.proofs.operands.first_not_before.Goals as goal

pub loop-low-init : goal.loop-low-init
loop-low-init c = parted_begun

pub overflow_sub-middle : goal.overflow_sub-middle
overflow_sub-middle c = omega arith

pub overflow_add-middle : goal.overflow_add-middle
overflow_add-middle c = omega arith

pub overflow_add-low : goal.overflow_add-low
overflow_add-low c = omega arith

pub loop-low-smaller-then-comes_before : goal.loop-low-smaller-then-comes_before
loop-low-smaller-then-comes_before c = omega arith

pub loop-low-preserved-then-comes_before : goal.loop-low-preserved-then-comes_before
loop-low-preserved-then-comes_before c =
    parted_up _ _ _ c.requires c.loop-low.invariant _ (omega (arith, c.loop-low-test.true))
    (sym c.comes_before.ensures ∙ c.if-comes_before.true)

pub loop-low-smaller : goal.loop-low-smaller
loop-low-smaller c = omega arith

pub loop-low-preserved : goal.loop-low-preserved
loop-low-preserved c =
    parted_down _ _ _ c.requires c.loop-low.invariant _ (omega (arith, c.loop-low-test.true))
    (omega arith) (sym c.comes_before.ensures ∙ c.if-comes_before.false)

pub returns : goal.returns
returns c =
    let v = c.loop-low.invariant in record {
      before = v.before;
      after = λ i a b. v.after i (omega (arith, c.loop-low-test.false)) b;
      within = omega (arith, v.ordered, v.within);
    }
