-- `call::planned::plan_by_values` meets its contract: a plan by the band's floats, which are the values, or one by the front of the slice
-- that is lent on, which holds them. Assumes nothing.
use mathlib.Core.Path.{sym, ap, ◌∙◌}
use lib.Seq.{length-take-le}
use Rattle.cells.specs.Columns.{columns}
use Rattle.plans.specs.Plans.{plan_of_values}
use Rattle.plans.proofs.AnyOrder.{planned_is}
use Rattle.call.proofs.Gathering.{all_in_band}
use native.Mathlib.Omega.{arith}
use Rattle.call.proofs.planned.plan_by_values.Goals as goal

pub returns-in-Some : goal.returns-in-Some
returns-in-Some c kinds wraps nums ats lens band counted numbered =
    let a = c.args in
    let values = c.are_values.ensures c.if-are_values.true in
    let all = all_in_band (columns a.rows.now a.cols.now kinds wraps nums ats lens) band a.floats.now numbered
    c.requires.cols_value.4 values.1 (sym counted ∙ values.0) in
    planned_is _ _ _ (sym c.in-Some.is ∙ c.plan_of_numbers.ensures) ∙ ap (plan_of_values _) all

pub slice_bounds-plan_of_values-end-2 : goal.slice_bounds-plan_of_values-end-2
slice_bounds-plan_of_values-end-2 c =
    sym (length-take-le c.gather-count.result _ ((omega arith)))

pub returns : goal.returns
returns c kinds wraps nums ats lens band counted numbered =
    c.plan_of_values.ensures.value
    ∙ ap (plan_of_values _)
    (c.gather-count.ensures.values kinds wraps nums ats lens band numbered)
