-- What a rule comes to by values in any order, in the code's steps: whether a number is told of them, and what is left to put in order.
-- Assumes nothing.
use Rattle.std.specs.Prelude.{Some, None}
use Prim.Native.Nat.{ℕ}
use mathlib.Core.Path.{◌≡◌, refl, ap}
use mathlib.Core.Bool.{Bool, true, false, cond, not, ◌&&◌, and-false, true≢false, false≢true}
use mathlib.Core.List.{List, [], ◌∷◌}
use native.Mathlib.Omega.{arith}
use borrow.Author.Tests.{lt-ltb}
use lib.ListN.{length}
use lib.Ieee.{Float}
use Rattle.model.specs.declared.CfRule.{CfRule}
use Rattle.model.specs.declared.Plan.{Plan}
use Rattle.model.specs.Options.{Reading}
use Rattle.model.specs.declared.Rgb.{Rgb}
use Rattle.ranks.specs.Finite.{all_finite, if_finite}
use Rattle.plans.specs.Plans.{Planned}
use Rattle.plans.specs.Plans.{plan_of_values, orders_values, planned_of}
use Rattle.plans.proofs.Cases.{rank_none, rank_zero}

abbrev is_of : Planned → Bool
is_of (Some p) = true
is_of None = false

abbrev is_number : Reading → Bool
is_number (Some x) = true
is_number None = false

-- ---- by the number told of the values

module _ (kind : CfRule) (xs : List Float) (v : Float) where
  pub planned_told : (x : Float) → Some x ≡ if_finite xs v → planned_of kind xs ≡ Some (plan_of_values kind xs)
  unfolding planned_of if_finite
  planned_told x h = decided (all_finite xs) h
    where
      decided : (b : Bool) → Some x ≡ cond b (Some v) None
          → cond (orders_values kind && not b) None (Some (plan_of_values kind xs)) ≡ Some (plan_of_values kind xs)
      decided true e = rw (and-false (orders_values kind))
      decided false e = absurd (true≢false (ap is_number e))

  pub planned_untold : orders_values kind ≡ true → None ≡ if_finite xs v → planned_of kind xs ≡ None
  unfolding planned_of if_finite
  planned_untold o h = rw o (decided (all_finite xs) h)
    where
      decided : (b : Bool) → None ≡ cond b (Some v) None
          → cond (not b) None (Some (plan_of_values kind xs)) ≡ None
      decided true e = absurd (false≢true (ap is_number e))
      decided false e = refl

-- ---- a rank of no values, and of 0

module _ (bottom percent : Bool) (fill : Rgb) where
  pub planned_none : (number : ℕ) (xs : List Float) → length xs ≡ 0
      → planned_of (CfRule.TopBottom number bottom percent fill) xs ≡ Some Plan.Skipped
  unfolding planned_of plan_of_values all_finite
  planned_none number [] h =
      rw (and-false (orders_values (CfRule.TopBottom number bottom percent fill)), rank_none bottom percent fill number [] h)
  planned_none number (x ∷ xs) h = absurd (omega arith)

  pub planned_zero : (xs : List Float) → planned_of (CfRule.TopBottom 0 bottom percent fill) xs ≡ Some Plan.Skipped
  unfolding planned_of plan_of_values orders_values
  planned_zero xs = ap Some (rank_zero bottom percent fill xs)

-- ---- what an answer tells

module _ (kind : CfRule) (xs : List Float) where
  -- a plan given is that of the values
  pub planned_is : (p : Plan) → Some p ≡ planned_of kind xs → p ≡ plan_of_values kind xs
  unfolding planned_of
  planned_is p h = decided (orders_values kind && not (all_finite xs)) h
    where
      plan : Planned → Plan
      plan (Some q) = q
      plan None = p

      decided : (b : Bool) → Some p ≡ cond b None (Some (plan_of_values kind xs)) → p ≡ plan_of_values kind xs
      decided true e = absurd (true≢false (ap is_of e))
      decided false e = ap plan e

  -- without one the kind needs the values in order, and they are not all finite
  pub unordered_is : None ≡ planned_of kind xs → (orders_values kind ≡ true) × (all_finite xs ≡ false)
  unfolding planned_of
  unordered_is h = decided (orders_values kind) (all_finite xs) h
    where
      decided : (o f : Bool) → None ≡ cond (o && not f) None (Some (plan_of_values kind xs))
          → (o ≡ true) × (f ≡ false)
      decided true false e = (refl, refl)
      decided true true e = absurd (false≢true (ap is_of e))
      decided false f e = absurd (false≢true (ap is_of e))

-- ---- what is left to put in order

pub some_values : (xs : List Float) → all_finite xs ≡ false → length xs ≡ 0 → ⊥
unfolding all_finite
some_values [] f h = true≢false f
some_values (x ∷ xs) f h = absurd (omega arith)

module _ (number : ℕ) (bottom percent : Bool) (fill : Rgb) where
  pub orders_rank : (number ≡ 0 → ⊥) → orders_values (CfRule.TopBottom number bottom percent fill) ≡ true
  unfolding orders_values
  orders_rank h = lt-ltb 0 number (omega (arith, h))

  pub some_rank : orders_values (CfRule.TopBottom number bottom percent fill) ≡ true → number ≡ 0 → ⊥
  unfolding orders_values
  some_rank o z = false≢true (rw z at o)
