-- `ratio::held_to_unit` meets its contract, by the laws of proofs/Held.antt. Assumes nothing.
use mathlib.Core.Path.{◌≡◌, sym, subst}
use mathlib.Core.Bool.{true, false}
use lib.Dec.{T}
use lib.Ieee.{Float, lt, of_bits}
use Rattle.model.specs.Ratio.{zero_f, one_f}
use Rattle.ratio.proofs.Held.{Held, held_inside, held_above, held_below}
use Rattle.ratio.proofs.held_to_unit.Goals as goal
use Rattle.ratio.proofs.held_to_unit.Goals.{else-x, then-x}

-- y, which is x or 0, is below 1
inside : (x y : Float) → lt zero_f x ≡ true → y ≡ x → lt y one_f ≡ true → Held x y
inside x y h is l = subst (λ (z : Float). Held x z) (sym is) (held_inside x h (subst (λ (z : Float). lt z one_f ≡ true) is l))

below : (x y : Float) → lt zero_f x ≡ false → y ≡ zero_f → Held x y
below x y h is = subst (λ (z : Float). Held x z) (sym is) (held_below x h)

-- and here it is not
above : (x y : Float) → lt zero_f x ≡ true → y ≡ x → lt y one_f ≡ false → Held x one_f
above x y h is l = held_above x h (subst (λ (z : Float). lt z one_f ≡ false) is l)

never : (x y : Float) → y ≡ zero_f → lt y one_f ≡ false → Held x one_f
unfolding lt
never x y is l = absurd (subst T (subst (λ (z : Float). lt z one_f ≡ false) is l) tt)

pub returns-then-y : goal.returns-then-y
unfolding of_bits
returns-then-y c =
    let x = c.args.x in
    let h : Held x c.if-x.y = (elim c.if-x.branch [ then-x w ↦ inside x _ w.if-x.true w.y-is c.if-y.true | else-x w ↦ below x _ w.if-x.false w.y-is ]) in record {
      unit = h.unit;
      same = h.same;
    }

pub returns-else-y : goal.returns-else-y
unfolding of_bits
returns-else-y c =
    let x = c.args.x in
    let h : Held x one_f = (elim c.if-x.branch [ then-x w ↦ above x _ w.if-x.true w.y-is c.if-y.false | else-x w ↦ never x _ w.y-is c.if-y.false ]) in record {
      unit = h.unit;
      same = h.same;
    }
