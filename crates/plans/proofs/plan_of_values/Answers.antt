-- `plan_of_values` meets its contract: the plan is found first, and the values keep their length until they are cleared. Assumes nothing.
use mathlib.Core.Path.{sym, ◌∙◌}
use Rattle.plans.proofs.AnyOrder.{planned_is, unordered_is}
use Rattle.plans.proofs.plan_of_values.Goals as goal
use Rattle.plans.proofs.plan_of_values.Goals.{in-Some, in-None}

pub plan_in_order-plan-requires : goal.plan_in_order-plan-requires
plan_in_order-plan-requires c =
    let told = unordered_is _ _ (sym c.in-None.is ∙ c.plan_of_numbers.ensures) in
    record { kind_value = told.0; values_value = told.1 }

pub returns-clause-value : goal.returns-clause-value
returns-clause-value c =
    elim c.match-plan_of_numbers.branch [
      | in-Some w ↦ w.plan-is ∙ planned_is _ _ _ (sym w.in-Some.is ∙ c.plan_of_numbers.ensures)
      | in-None w ↦ w.plan-is ∙ w.plan_in_order-plan.ensures
    ]
