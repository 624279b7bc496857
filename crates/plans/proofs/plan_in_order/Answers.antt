-- `plan_in_order` meets its contract: the values in order have the midpoint and the threshold, and no other kind comes here.
-- Assumes nothing.
use mathlib.Core.Path.{sym, ap, ◌∙◌}
use Rattle.plans.specs.Plans.{plan_of_values, orders_values}
use Rattle.plans.proofs.Cases.{rank_some}
use Rattle.plans.proofs.AnyOrder.{some_values, some_rank}
use Rattle.plans.proofs.plan_in_order.Goals as goal

pub returns-in-ColorScale3 : goal.returns-in-ColorScale3
unfolding plan_of_values
returns-in-ColorScale3 c =
    rw c.in-ColorScale3.is
    (c.color_scale3.ensures _ c.numeric_bounds-bounds.ensures (rw (c.midpoint.ensures, c.sort.ensures)))

pub returns-in-TopBottom : goal.returns-in-TopBottom
unfolding plan_of_values
returns-in-TopBottom c =
    rw (
      c.in-TopBottom.is,
      rank_some _ _ _ _ _ (some_values _ c.requires.values_value) (some_rank _ _ _ _ (sym (ap orders_values c.in-TopBottom.is) ∙ c.requires.kind_value)),
      c.threshold-threshold.ensures,
      c.selected-count.ensures,
      c.sort-in-TopBottom.ensures,
    )
