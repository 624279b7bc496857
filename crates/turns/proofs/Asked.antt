-- A rule asks the regions that are not stopped: all of them, or those up to the first that leaves it unresolved. Assumes nothing.
use Rattle.std.specs.Prelude.{Some, None}
use Prim.Native.Nat.{ℕ, zero, suc, ◌+◌, ◌-◌, ◌≤◌, ◌<◌}
use native.Mathlib.Omega.{arith}
use mathlib.Core.Path.{◌≡◌, refl, sym, ap}
use mathlib.Core.Bool.{Bool, true, false, cond, not, true≢false}
use mathlib.Core.List.{List, [], ◌∷◌}
use lib.Dec.{eqb}
use lib.Ieee.{Float, le}
use lib.ListN.{length, get_or}
use Rattle.model.specs.declared.CellCoordinate.{CellCoordinate}
use Rattle.model.specs.declared.Outcome.{Outcome}
use Rattle.model.specs.Options.{Reading}
use Rattle.model.specs.declared.Rgb.{Rgb}
use Rattle.model.specs.declared.Rule.{Rule}
use Rattle.model.specs.declared.Test.{Test}
use Rattle.model.specs.Sheet.{Sheet, in_range}
use Rattle.model.specs.Rule.{filled, scaled, barred, filled_if, on_value, on_operand, on_second, verdict}
use Rattle.model.specs.Run.{outcome, asked, is_unresolved}
use Rattle.cells.specs.Columns.{coordinate_at}
use Rattle.hits.specs.Hits.{unresolved_from, live_from}
use Rattle.turns.specs.Step.{flagged, outcomes_from}

-- ---- a verdict never says that a region is stopped

abbrev is_stopped : Outcome → Bool
is_stopped Outcome.Stopped = true
is_stopped Outcome.Passed = false
is_stopped Outcome.Unresolved = false
is_stopped (Outcome.Painted p) = false

abbrev Said : Outcome → Type 0
Said o = is_stopped o ≡ false

filled_said : (imported : Bool) (shape : ℕ) (fill : Rgb) → Said (filled imported shape fill)
unfolding filled
filled_said true shape fill = refl
filled_said false shape fill = refl

-- whichever half of a scale is used
halves_said : (lower imported : Bool) (m n : ℕ) (c d : Rgb) → Said (cond lower (filled imported m c) (filled imported n d))
halves_said true imported m n c d = filled_said imported m c
halves_said false imported m n c d = filled_said imported n d

filled_if_said : (met imported : Bool) (fill : Rgb) → Said (filled_if met imported fill)
unfolding filled_if
filled_if_said true imported fill = filled_said imported 0 fill
filled_if_said false imported fill = refl

value_said : (x : Reading) (say : Float → Outcome) → ((v : Float) → Said (say v)) → Said (on_value x say)
unfolding on_value
value_said (Some v) say h = h v
value_said None say h = refl

operand_said : (x : Reading) (say : Float → Outcome) → ((v : Float) → Said (say v)) → Said (on_operand x say)
unfolding on_operand
operand_said (Some v) say h = h v
operand_said None say h = refl

second_said : (used : Bool) (y : Reading) (say : Reading → Outcome) → ((z : Reading) → Said (say z)) → Said (on_second used y say)
unfolding on_second
second_said true (Some v) say h = h (Some v)
second_said true None say h = refl
second_said false y say h = h None

verdict_said : (s : Sheet) (r : Rule) (at : CellCoordinate) (t : Test) → Said (verdict s r at t)
unfolding verdict scaled barred
verdict_said s r at (Test.CellIs op first second fill) =
    value_said _ _ (λ x. operand_said _ _ (λ a. second_said _ _ _ (λ b. filled_if_said _ _ fill)))
verdict_said s r at (Test.ColorScale2 min max low high) = value_said _ _ (λ x. filled_said _ _ _)
verdict_said s r at (Test.ColorScale3 min mid max low middle high) = value_said _ _ (λ x. halves_said (le x middle) _ _ _ _ _)
verdict_said s r at (Test.DataBar color low high) = value_said _ _ (λ x. refl)
verdict_said s r at (Test.TopBottom bottom bound fill) = value_said _ _ (λ x. filled_if_said _ _ fill)
verdict_said s r at (Test.AboveAverage below bound fill) = value_said _ _ (λ x. filled_if_said _ _ fill)
verdict_said s r at (Test.DuplicateValues unique fill) = filled_if_said _ _ fill
verdict_said s r at (Test.Expression op left right fill) = operand_said _ _ (λ a. operand_said _ _ (λ b. filled_if_said _ _ fill))

-- ---- where the first unresolved outcome stands

pub first_least : (i : ℕ) (os : List Outcome) → i ≤ unresolved_from i os
unfolding unresolved_from
first_least i [] = omega arith
first_least i (Outcome.Stopped ∷ os) = omega (arith, first_least (suc i) os)
first_least i (Outcome.Passed ∷ os) = omega (arith, first_least (suc i) os)
first_least i (Outcome.Unresolved ∷ os) = omega arith
first_least i (Outcome.Painted p ∷ os) = omega (arith, first_least (suc i) os)

pub first_most : (i : ℕ) (os : List Outcome) → is_unresolved os ≡ true → unresolved_from i os < i + length os
unfolding unresolved_from is_unresolved
first_most i [] e = absurd (true≢false (sym e))
first_most i (Outcome.Stopped ∷ os) e = omega (arith, first_most (suc i) os e)
first_most i (Outcome.Passed ∷ os) e = omega (arith, first_most (suc i) os e)
first_most i (Outcome.Unresolved ∷ os) e = omega arith
first_most i (Outcome.Painted p ∷ os) e = omega (arith, first_most (suc i) os e)

-- ---- the regions that are asked

module _ (flags : List ℕ) (i : ℕ) (os : List Outcome) where
  -- one more region, asked unless it is stopped
  live_onward : (o : Outcome) → is_stopped o ≡ not (eqb (get_or flags i 0) 0) → (n : ℕ)
      → (is_unresolved os ≡ false → asked os ≡ live_from flags (suc i) n) → is_unresolved (o ∷ os) ≡ false
      → asked (o ∷ os) ≡ live_from flags i (suc n)
  unfolding asked is_unresolved live_from
  live_onward o e n later none = go (eqb (get_or flags i 0) 0) o e none
    where
      go : (live : Bool) (o : Outcome) → is_stopped o ≡ not live → is_unresolved (o ∷ os) ≡ false
          → asked (o ∷ os) ≡ cond live (suc (live_from flags (suc i) n)) (live_from flags (suc i) n)
      go true Outcome.Stopped e none = cc
      go true Outcome.Passed e none = ap suc (later none)
      go true Outcome.Unresolved e none = cc
      go true (Outcome.Painted p) e none = ap suc (later none)
      go false Outcome.Stopped e none = later none
      go false Outcome.Passed e none = cc
      go false Outcome.Unresolved e none = cc
      go false (Outcome.Painted p) e none = cc

  abbrev FirstAsked : ℕ → List Outcome → Type 0
  FirstAsked i os = is_unresolved os ≡ true → asked os ≡ live_from flags i (suc (unresolved_from i os - i))

  first_onward : (o : Outcome) → is_stopped o ≡ not (eqb (get_or flags i 0) 0) → FirstAsked (suc i) os → FirstAsked i (o ∷ os)
  unfolding asked is_unresolved unresolved_from live_from
  first_onward o e later some = go (eqb (get_or flags i 0) 0) refl o e some
    where
      first : ℕ
      first = unresolved_from (suc i) os

      onward : first - i ≡ suc (first - suc i)
      onward = omega (arith, first_least (suc i) os)

      none : i - i ≡ 0
      none = omega arith

      go : (live : Bool) → eqb (get_or flags i 0) 0 ≡ live → (o : Outcome) → is_stopped o ≡ not live → FirstAsked i (o ∷ os)
      go true f Outcome.Stopped e some = cc
      go true f Outcome.Passed e some = rw (onward, f) (ap suc (later some))
      go true f Outcome.Unresolved e some = rw (none, f)
      go true f (Outcome.Painted p) e some = rw (onward, f) (ap suc (later some))
      go false f Outcome.Stopped e some = rw (onward, f) (later some)
      go false f Outcome.Passed e some = cc
      go false f Outcome.Unresolved e some = cc
      go false f (Outcome.Painted p) e some = cc

module _ (s : Sheet) (r : Rule) (t : Test) (rows cols flags : List ℕ) where
  abbrev outcomes_at : ℕ → ℕ → List Outcome
  outcomes_at i n = outcomes_from s r t rows cols flags i n

  outcome_stopped : (i : ℕ)
      → is_stopped (outcome s r t (coordinate_at rows cols i) (flagged (get_or flags i 0))) ≡ not (eqb (get_or flags i 0) 0)
  unfolding outcome
  outcome_stopped i = go (not (eqb (get_or flags i 0) 0)) (in_range r.range (coordinate_at rows cols i))
    where
      go : (stopped within : Bool)
          → is_stopped (cond stopped Outcome.Stopped (cond within (verdict s r (coordinate_at rows cols i) t) Outcome.Passed)) ≡ stopped
      go true within = refl
      go false true = verdict_said s r (coordinate_at rows cols i) t
      go false false = refl

  -- where none is unresolved, all that are not stopped are asked
  pub asked_live : (i n : ℕ) → is_unresolved (outcomes_at i n) ≡ false → asked (outcomes_at i n) ≡ live_from flags i n
  unfolding outcomes_from asked live_from
  asked_live i zero none = refl
  asked_live i (suc n) none = live_onward flags i (outcomes_at (suc i) n) _ (outcome_stopped i) n (asked_live (suc i) n) none

  -- else those up to the first unresolved one, itself among them
  pub asked_first : (i n : ℕ) → is_unresolved (outcomes_at i n) ≡ true
      → asked (outcomes_at i n) ≡ live_from flags i (suc (unresolved_from i (outcomes_at i n) - i))
  unfolding outcomes_from is_unresolved
  asked_first i zero some = cc
  asked_first i (suc n) some = first_onward flags i (outcomes_at (suc i) n) _ (outcome_stopped i) (asked_first (suc i) n) some
