-- `top_bottom` meets its contract: without values and of rank 0 it is skipped, and else counting tells the threshold or that a value is not
-- finite. Assumes nothing.
use Rattle.std.proofs.Common.{sym, ◌∙◌, eqb-true}
use Rattle.std.proofs.lemmas.Bool.{eqb-false}
use Rattle.ranks.proofs.Finite.{told_is}
use Rattle.plans.specs.Plans.{plan_of_values}
use Rattle.plans.proofs.Cases.{rank_some}
use Rattle.plans.proofs.AnyOrder.{planned_told, planned_untold, planned_none, planned_zero, orders_rank}
use Rattle.plans.proofs.top_bottom.Goals as goal
use Rattle.plans.proofs.top_bottom.Goals.{then-none-via-then-none, then-none-via-else-none+then-is_empty}

pub returns-then-none : goal.returns-then-none
returns-then-none c =
    elim c.then-none.branch [
      | then-none-via-then-none w ↦ rw (w.if-none.true, planned_zero)
      | then-none-via-else-none+then-is_empty w ↦
          sym (planned_none _ _ _ _ _ (eqb-true _ _ (sym w.is_empty.ensures ∙ w.if-is_empty.true)))
    ]

pub returns-in_err-threshold : goal.returns-in_err-threshold
returns-in_err-threshold c =
    let o = orders_rank _ _ _ _ c.if-none.false in
    c.from_residual.ensures ∙ sym (planned_untold _ _ _ o (sym c.in_err-threshold.was ∙ c.threshold.ensures))

pub returns : goal.returns
unfolding plan_of_values
returns c =
    let e = sym c.in_ok-threshold.was ∙ c.threshold.ensures in
    rw (
      planned_told _ _ _ _ e,
      rank_some _ _ _ _ _ (eqb-false _ _ (sym c.is_empty.ensures ∙ c.if-is_empty.false)) c.if-none.false,
      told_is _ _ _ e,
      c.selected.ensures,
    )
