-- What `plan_of_values` gives and leaves, computed: of no value, of one and of three, for kinds that sort them and one that takes none. And
-- what `plan_of_numbers` gives, of values that are all finite and of others. Assumes nothing.
use Rattle.std.specs.Prelude.{Some, None}
use Prim.Native.Nat.{ℕ}
use mathlib.Core.Path.{◌≡◌, refl}
use mathlib.Core.Bool.{true, false}
use mathlib.Core.List.{List, [], ◌∷◌}
use lib.Ieee.{Float, inf}
use lib.ListN.{length, replicate}
use Rattle.model.specs.declared.CfRule.{CfRule}
use Rattle.model.specs.declared.Plan.{Plan}
use Rattle.model.specs.declared.Test.{Test}
use Rattle.model.specs.Ratio.{zero_f}
use Rattle.model.proofs.Computing.{jobs}
use Rattle.model.proofs.Samples.{samples, whole, float, red, green}
use Rattle.ranks.specs.Finite.{all_finite}
use Rattle.plans.specs.Plans.{plan_of_values, orders_values, planned_of}

abbrev number : ℕ → Float
number n = float (whole n)

-- the plan, and what is left of the values
abbrev planned : CfRule → List Float → Plan × List Float
planned kind xs = (plan_of_values kind xs, replicate (length xs) zero_f)

none : planned (CfRule.ColorScale3 red green red) [] ≡ (Plan.Skipped, [])
unfolding jobs samples plan_of_values
none = refl

one : planned (CfRule.TopBottom 1 true false red) (number 7 ∷ []) ≡ (Plan.Tested (Test.TopBottom true (number 7) red), zero_f ∷ [])
unfolding jobs samples plan_of_values
one = refl

-- least, midpoint and greatest
three : planned (CfRule.ColorScale3 red green red) (number 9 ∷ number 2 ∷ number 5 ∷ [])
    ≡ (Plan.Tested (Test.ColorScale3 red green red (number 2) (number 5) (number 9)), zero_f ∷ zero_f ∷ zero_f ∷ [])
unfolding jobs samples plan_of_values
three = refl

-- a kind that takes no values
other : planned (CfRule.DuplicateValues true red) (number 9 ∷ number 2 ∷ []) ≡ (Plan.Skipped, zero_f ∷ zero_f ∷ [])
unfolding jobs samples plan_of_values
other = refl

-- ---- by values that are not moved

told : planned_of (CfRule.TopBottom 1 true false red) (number 9 ∷ number 2 ∷ [])
    ≡ Some (Plan.Tested (Test.TopBottom true (number 2) red))
unfolding jobs samples plan_of_values orders_values planned_of all_finite
told = refl

infinite : planned_of (CfRule.TopBottom 1 true false red) (number 9 ∷ inf false ∷ []) ≡ None
unfolding jobs samples orders_values planned_of all_finite
infinite = refl

-- a rank of 0 is skipped all the same
infinite_zero : planned_of (CfRule.TopBottom 0 true false red) (number 9 ∷ inf false ∷ []) ≡ Some Plan.Skipped
unfolding jobs samples plan_of_values orders_values planned_of all_finite
infinite_zero = refl
