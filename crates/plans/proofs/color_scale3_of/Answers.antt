-- `color_scale3_of` meets its contract: a number that counting gives is the midpoint, and without one a value is not finite.
-- Assumes nothing.
use Rattle.std.specs.Prelude.{Some}
use mathlib.Core.Path.{refl, sym, ap, ◌∙◌}
use Rattle.ranks.proofs.Finite.{told_is}
use Rattle.plans.specs.Plans.{plan_of_values, orders_values}
use Rattle.plans.proofs.AnyOrder.{planned_told, planned_untold}
use Rattle.plans.proofs.color_scale3_of.Goals as goal

pub returns-in_err-middle : goal.returns-in_err-middle
unfolding orders_values
returns-in_err-middle c =
    c.from_residual.ensures ∙ sym (planned_untold _ _ _ refl (sym c.in_err-middle.was ∙ c.midpoint.ensures))

pub returns : goal.returns
unfolding plan_of_values
returns c =
    let e = sym c.in_ok-middle.was ∙ c.midpoint.ensures in
    ap Some (c.color_scale3.ensures _ c.numeric_bounds-bounds.ensures (told_is _ _ _ e)) ∙ sym (planned_told _ _ _ _ e)
