-- Told apart: a rule that takes values counts no keys, either asks for the cells in range, a deferred plan is not tested, and charges that
-- are not refused are accepted. Assumes nothing.
use Rattle.std.specs.Prelude.{Ok, Err}
use Rattle.std.specs.Result.{MatchResult, is_err}
use Prim.Native.Nat.{ℕ}
use native.Mathlib.Omega.{arith}
use mathlib.Core.Path.{◌≡◌, refl, sym}
use mathlib.Core.Bool.{Bool, true, false, ◌||◌, false≢true}
use Rattle.charging.specs.declared.Counter.{Counter}
use Rattle.charging.specs.Charge.{Charged, and_then}
use Rattle.model.specs.declared.CfRule.{CfRule}
use Rattle.model.specs.declared.Plan.{Plan}
use Rattle.model.specs.declared.Test.{Test}
use Rattle.plans.specs.Plans.{takes_values}
use Rattle.order.specs.Order.{is_duplicates}
use Rattle.call.specs.Tables.{asks_cells}

pub values_no_duplicates : (k : CfRule) → takes_values k ≡ true → is_duplicates k ≡ false
unfolding takes_values is_duplicates
values_no_duplicates (CfRule.CellIs op first second fill) h = refl
values_no_duplicates (CfRule.ColorScale2 min max) h = refl
values_no_duplicates (CfRule.ColorScale3 min mid max) h = refl
values_no_duplicates (CfRule.DataBar color) h = refl
values_no_duplicates (CfRule.TopBottom number bottom percent fill) h = refl
values_no_duplicates (CfRule.AboveAverage below fill) h = refl
values_no_duplicates (CfRule.DuplicateValues unique fill) h = absurd (false≢true h)
values_no_duplicates (CfRule.Expression op left right fill) h = refl

pub values_ask : (k : CfRule) → takes_values k ≡ true → asks_cells k ≡ true
unfolding asks_cells
values_ask k h = rw h

pub duplicates_ask : (k : CfRule) → is_duplicates k ≡ true → asks_cells k ≡ true
unfolding asks_cells
duplicates_ask k h = rw h (or_true (takes_values k))
  where
    or_true : (b : Bool) → (b || true) ≡ true
    or_true true = refl
    or_true false = refl

pub untested : (test : Test) → Plan.Deferred ≡ Plan.Tested test → ⊥
untested test e = let no : ◌≡◌ {A = ℕ} 0 1 = cc in omega arith

-- charges that are not refused are accepted
pub accepted : (r : Charged) → is_err r ≡ false → (counter : Counter) × (r ≡ Ok counter)
accepted (Ok counter) h = (counter, refl)
accepted (Err e) h = absurd (false≢true (sym h))

pub refused : (r : Charged) → is_err r ≡ true → (counter : Counter) → r ≡ Ok counter → ⊥
refused (Ok n) h counter e = false≢true h
refused (Err n) h counter e = let no : ◌≡◌ {A = ℕ} 0 1 = cc in omega arith

-- what is accepted after other charges is so only if these were
pub accepted_before : (r : Charged) (next : ℕ → Charged) (counter : Counter) → and_then r next ≡ Ok counter
    → (first : Counter) × (r ≡ Ok first)
unfolding and_then
accepted_before (Ok first) next counter e = (first, refl)
accepted_before (Err error) next counter e = let no : ◌≡◌ {A = ℕ} 0 1 = cc in absurd (omega arith)

-- charges that go on from those that are accepted
pub told_then : (r x : Charged) (post : Counter → Type 0) (next : ℕ → Charged) → MatchResult r post (λ e. x ≡ Err e)
    → ((n : Counter) → r ≡ Ok n → post n → x ≡ next n.count) → x ≡ and_then r next
unfolding and_then
told_then (Ok n) x post next h k = k n refl h
told_then (Err e) x post next h k = h
