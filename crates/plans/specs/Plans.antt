-- What a rule comes to ahead of its regions, apart by what it is worked out from: the values of its range, or its operands.
-- Assumes nothing.
use Rattle.std.specs.Prelude.{Option, Bool, true, false, cond, not, ◌&&◌, ◌||◌, List, ltb, Float, Some, None}
use Rattle.model.specs.declared.CfRule.{CfRule}
use Rattle.model.specs.declared.Test.{Test}
use Rattle.model.specs.declared.Plan.{Plan}
use Rattle.model.specs.References.{unread}
use Rattle.model.specs.Comparison.{uses_second}
use Rattle.model.specs.Rule.{scale2, scale3, bar, rank, mean}
use Rattle.ranks.specs.Finite.{all_finite}

-- ---- by values

-- scales, bar, rank and average
unfoldable pub takes_values : CfRule → Bool
takes_values (CfRule.CellIs op first second fill) = false
takes_values (CfRule.ColorScale2 min max) = true
takes_values (CfRule.ColorScale3 min mid max) = true
takes_values (CfRule.DataBar color) = true
takes_values (CfRule.TopBottom number bottom percent fill) = true
takes_values (CfRule.AboveAverage below fill) = true
takes_values (CfRule.DuplicateValues unique fill) = false
takes_values (CfRule.Expression op left right fill) = false

-- the other kinds are skipped
unfoldable pub plan_of_values : CfRule → List Float → Plan
plan_of_values (CfRule.CellIs op first second fill) xs = Plan.Skipped
plan_of_values (CfRule.ColorScale2 min max) xs = scale2 min max xs
plan_of_values (CfRule.ColorScale3 min mid max) xs = scale3 min mid max xs
plan_of_values (CfRule.DataBar color) xs = bar color xs
plan_of_values (CfRule.TopBottom number bottom percent fill) xs = rank number bottom percent fill xs
plan_of_values (CfRule.AboveAverage below fill) xs = mean below fill xs
plan_of_values (CfRule.DuplicateValues unique fill) xs = Plan.Skipped
plan_of_values (CfRule.Expression op left right fill) xs = Plan.Skipped

-- kinds that need the values in order; a rank of 0 is skipped whatever they are
unfoldable pub orders_values : CfRule → Bool
orders_values (CfRule.CellIs op first second fill) = false
orders_values (CfRule.ColorScale2 min max) = false
orders_values (CfRule.ColorScale3 min mid max) = true
orders_values (CfRule.DataBar color) = false
orders_values (CfRule.TopBottom number bottom percent fill) = ltb 0 number
orders_values (CfRule.AboveAverage below fill) = false
orders_values (CfRule.DuplicateValues unique fill) = false
orders_values (CfRule.Expression op left right fill) = false

-- what a rule comes to, if counting tells it
abbrev pub Planned : Type 0
Planned = Option Plan

-- by values in any order: those that are all finite need not be put in order
unfoldable pub planned_of : CfRule → List Float → Planned
planned_of kind xs = cond (orders_values kind && not (all_finite xs)) None (Some (plan_of_values kind xs))

-- ---- by operands

-- cell-is and expression
unfoldable pub takes_operands : CfRule → Bool
takes_operands (CfRule.CellIs op first second fill) = true
takes_operands (CfRule.ColorScale2 min max) = false
takes_operands (CfRule.ColorScale3 min mid max) = false
takes_operands (CfRule.DataBar color) = false
takes_operands (CfRule.TopBottom number bottom percent fill) = false
takes_operands (CfRule.AboveAverage below fill) = false
takes_operands (CfRule.DuplicateValues unique fill) = false
takes_operands (CfRule.Expression op left right fill) = true

-- the other kinds are skipped
unfoldable pub plan_of_operands : CfRule → Plan
plan_of_operands (CfRule.CellIs op first second fill) =
    cond (unread first || (uses_second op && unread second)) Plan.Deferred (Plan.Tested (Test.CellIs op first second fill))
plan_of_operands (CfRule.ColorScale2 min max) = Plan.Skipped
plan_of_operands (CfRule.ColorScale3 min mid max) = Plan.Skipped
plan_of_operands (CfRule.DataBar color) = Plan.Skipped
plan_of_operands (CfRule.TopBottom number bottom percent fill) = Plan.Skipped
plan_of_operands (CfRule.AboveAverage below fill) = Plan.Skipped
plan_of_operands (CfRule.DuplicateValues unique fill) = Plan.Skipped
plan_of_operands (CfRule.Expression op left right fill) =
    cond (unread left || unread right) Plan.Deferred (Plan.Tested (Test.Expression op left right fill))

-- ---- bars

unfoldable pub is_bar_test : Test → Bool
is_bar_test (Test.CellIs op first second fill) = false
is_bar_test (Test.ColorScale2 min max low high) = false
is_bar_test (Test.ColorScale3 min mid max low middle high) = false
is_bar_test (Test.DataBar color low high) = true
is_bar_test (Test.TopBottom bottom bound fill) = false
is_bar_test (Test.AboveAverage below bound fill) = false
is_bar_test (Test.DuplicateValues unique fill) = false
is_bar_test (Test.Expression op left right fill) = false

-- whether each region is tested for a bar
unfoldable pub tests_bar : Plan → Bool
tests_bar Plan.Deferred = false
tests_bar Plan.Skipped = false
tests_bar (Plan.Tested test) = is_bar_test test
