-- What one rule does at one region: which outcome it has there, the state that it leaves, and whether it has a mark there.
-- Assumes nothing.
use Prim.Native.Nat.{ℕ, zero, suc, ◌+◌, ◌<◌}
use native.Mathlib.Nat.{add-zero}
use native.Mathlib.Omega.{arith}
use mathlib.Core.Path.{◌≡◌, refl, sym, ap, ◌∙◌}
use mathlib.Core.Logic.{◌⊎◌, inl, inr}
use mathlib.Core.Bool.{Bool, true, false, cond, ◌&&◌, false≢true, and-false, and-true}
use mathlib.Core.List.Memᴰ
use mathlib.Core.List.{List, [], ◌∷◌, ◌++◌, Memᴰ}
use lib.ListN.{length, get_or, replicate}
use Rattle.charging.specs.Charge.{Charge, one}
use Rattle.model.specs.declared.CellCoordinate.{CellCoordinate}
use Rattle.model.specs.declared.Outcome.{Outcome}
use Rattle.model.specs.declared.Plan.{Plan}
use Rattle.model.specs.declared.Rule.{Rule}
use Rattle.model.specs.declared.Test.{Test}
use Rattle.model.specs.Sheet.{Sheet}
use Rattle.model.specs.Rule as Rule
use Rattle.model.specs.Run as Run
use Rattle.model.specs.Run.{Run, Mark, RegionState, IndexedRule, untouched}
use Rattle.barlaws.specs.Origin.{HasMark}

abbrev pub state_at : ℕ → List RegionState → RegionState
state_at k states = get_or states k untouched

abbrev pub outcome_at : ℕ → List Outcome → Outcome
outcome_at k os = get_or os k Outcome.Passed

-- any coordinate, for places past the regions
abbrev pub nowhere : CellCoordinate
nowhere = record { row = 0; col = 0 }

abbrev pub region_of : Sheet → ℕ → CellCoordinate
region_of s k = get_or s.regions k nowhere

-- ---- lists of outcomes and states, one region at a time

module _ (s : Sheet) (r : Rule) (t : Test) where
  outcomes_length : (ats : List CellCoordinate) (states : List RegionState) → length states ≡ length ats
      → length (Run.outcomes s r t ats states) ≡ length ats
  unfolding Run.outcomes
  outcomes_length [] states e = refl
  outcomes_length (at ∷ ats) [] e = absurd (omega arith)
  outcomes_length (at ∷ ats) (x ∷ xs) e = ap suc (outcomes_length ats xs (omega arith))

  outcomes_at : (ats : List CellCoordinate) (states : List RegionState) (k : ℕ) → k < length ats → length states ≡ length ats
      → outcome_at k (Run.outcomes s r t ats states) ≡ Run.outcome s r t (get_or ats k nowhere) (state_at k states)
  unfolding Run.outcomes
  outcomes_at [] states k h e = absurd (omega arith)
  outcomes_at (at ∷ ats) [] k h e = absurd (omega arith)
  outcomes_at (at ∷ ats) (x ∷ xs) zero h e = refl
  outcomes_at (at ∷ ats) (x ∷ xs) (suc k) h e = outcomes_at ats xs k (omega arith) (omega arith)

afterwards_at : (rule : ℕ) (stop : Bool) (states : List RegionState) (os : List Outcome) (k : ℕ) → length os ≡ length states
    → state_at k (Run.all_afterwards rule stop states os) ≡ Run.afterwards rule stop (state_at k states) (outcome_at k os)
unfolding Run.all_afterwards Run.afterwards
afterwards_at rule stop [] [] k e = refl
afterwards_at rule stop [] (o ∷ os) k e = absurd (omega arith)
afterwards_at rule stop (x ∷ xs) [] k e = absurd (omega arith)
afterwards_at rule stop (x ∷ xs) (o ∷ os) zero e = refl
afterwards_at rule stop (x ∷ xs) (o ∷ os) (suc k) e = afterwards_at rule stop xs os k (omega arith)

-- ---- marks

unfoldable pub is_painted : Outcome → Bool
is_painted Outcome.Stopped = false
is_painted Outcome.Passed = false
is_painted Outcome.Unresolved = false
is_painted (Outcome.Painted p) = true

-- a mark of the regions behind the first
later_mark : {marks : List Mark} {rule region : ℕ} (m : Mark) → HasMark marks rule region → HasMark (m ∷ marks) rule region
later_mark m h = record { mark = h.mark; there = Memᴰ.tail h.there; of_rule = h.of_rule; on_region = h.on_region }

-- a region that is painted has a mark
painted_marked : (rule region : ℕ) (os : List Outcome) (k n : ℕ) → n ≡ region + k → is_painted (outcome_at k os) ≡ true
    → HasMark (Run.marks_from rule region os) rule n
unfolding Run.marks_from is_painted
painted_marked rule region [] k n e h = absurd (false≢true h)
painted_marked rule region (Outcome.Stopped ∷ os) zero n e h = absurd (false≢true h)
painted_marked rule region (Outcome.Passed ∷ os) zero n e h = absurd (false≢true h)
painted_marked rule region (Outcome.Unresolved ∷ os) zero n e h = absurd (false≢true h)
painted_marked rule region (Outcome.Painted p ∷ os) zero n e h =
    record {
      mark = record { region = region; rule = rule; paint = p };
      there = Memᴰ.head refl;
      of_rule = refl;
      on_region = omega (arith, e);
    }
painted_marked rule region (Outcome.Stopped ∷ os) (suc k) n e h = painted_marked rule (suc region) os k n (omega (arith, e)) h
painted_marked rule region (Outcome.Passed ∷ os) (suc k) n e h = painted_marked rule (suc region) os k n (omega (arith, e)) h
painted_marked rule region (Outcome.Unresolved ∷ os) (suc k) n e h = painted_marked rule (suc region) os k n (omega (arith, e)) h
painted_marked rule region (Outcome.Painted p ∷ os) (suc k) n e h =
    later_mark (record { region = region; rule = rule; paint = p }) (painted_marked rule (suc region) os k n (omega (arith, e)) h)

-- where a mark is from
record Painted (rule region : ℕ) (os : List Outcome) (m : Mark) : Type 0 where
  of_rule : m.rule ≡ rule
  place : ℕ
  on_region : m.region ≡ region + place
  is_paint : is_painted (outcome_at place os) ≡ true

painted_later : {rule region : ℕ} {os : List Outcome} {m : Mark} (o : Outcome) → Painted rule (suc region) os m
    → Painted rule region (o ∷ os) m
painted_later o p =
    record { of_rule = p.of_rule; place = suc p.place; on_region = omega (arith, p.on_region); is_paint = p.is_paint }

-- a mark is on a region that is painted
mark_painted : (rule region : ℕ) (os : List Outcome) (m : Mark) → Memᴰ m (Run.marks_from rule region os) → Painted rule region os m
unfolding Run.marks_from is_painted
mark_painted rule region [] m there = absurd (Memᴰ.not-nil there)
mark_painted rule region (Outcome.Stopped ∷ os) m there = painted_later Outcome.Stopped (mark_painted rule (suc region) os m there)
mark_painted rule region (Outcome.Passed ∷ os) m there = painted_later Outcome.Passed (mark_painted rule (suc region) os m there)
mark_painted rule region (Outcome.Unresolved ∷ os) m there = painted_later Outcome.Unresolved (mark_painted rule (suc region) os m there)
mark_painted rule region (Outcome.Painted p ∷ os) m there = by (mark_painted rule (suc region) os m) (Memᴰ.cases_cons there)
  where
    by : (Memᴰ m (Run.marks_from rule (suc region) os) → Painted rule (suc region) os m)
        → (m ≡ record { region = region; rule = rule; paint = p }) ⊎ Memᴰ m (Run.marks_from rule (suc region) os)
        → Painted rule region (Outcome.Painted p ∷ os) m
    by later (inl e) =
        record { of_rule = ap (λ m. m.rule) e; place = 0; on_region = ap (λ m. m.region) e ∙ sym (add-zero region); is_paint = refl }
    by later (inr there) = painted_later (Outcome.Painted p) (later there)

-- ---- a rule

-- what a rule does at region k, by its outcome there
pub record Effect (i : IndexedRule) (k : ℕ) (before : RegionState) (a : Run) (o : Outcome) : Type 0 where
  pub state : state_at k a.states ≡ Run.afterwards i.index i.rule.stop before o
  pub marked : is_painted o ≡ true → HasMark a.marks i.index k
  pub only : (e : ℕ) → HasMark a.marks e k → (e ≡ i.index) × (is_painted o ≡ true)

module _ (s : Sheet) (i : IndexedRule) (k : ℕ) (states : List RegionState) where
  abbrev pub says : Test → List Outcome
  says t = Run.outcomes s i.rule t s.regions states

  -- the outcome of the rule at the region; a rule that is deferred, skipped or left unresolved has none that shows
  abbrev pub told : Plan → Outcome
  told Plan.Deferred = Outcome.Passed
  told Plan.Skipped = Outcome.Passed
  told (Plan.Tested t) = cond (Run.is_unresolved (says t)) Outcome.Passed (outcome_at k (says t))

  unmarked_effect : (charges : List Charge) (d n : ℕ) → Effect i k (state_at k states) (Run.unmarked charges states d n) Outcome.Passed
  unfolding Run.unmarked Run.afterwards is_painted
  unmarked_effect charges d n =
      record { state = refl; marked = λ h. absurd (false≢true h); only = λ e m. absurd (Memᴰ.not-nil m.there) }

  module _ (lengths : length states ≡ length s.regions) where
    marked_effect : (charges : List Charge) (n : ℕ) (os : List Outcome) → length os ≡ length states
        → Effect i k (state_at k states) (record {
          charges = charges;
          marks = Run.marks_from i.index 0 os;
          states = Run.all_afterwards i.index i.rule.stop states os;
          deferred = 0;
          simplified = n;
        }) (outcome_at k os)
    marked_effect charges n os e =
        record {
          state = afterwards_at i.index i.rule.stop states os k e;
          marked = painted_marked i.index 0 os k k (omega arith);
          only = λ e m.
              let p = mark_painted i.index 0 os m.mark m.there in
              let same : p.place ≡ k = omega (arith, p.on_region, m.on_region) in
              (sym m.of_rule ∙ p.of_rule, ap (λ n. is_painted (outcome_at n os)) (sym same) ∙ p.is_paint);
        }

    carried_effect : (n : ℕ) (p : Plan) → Effect i k (state_at k states) (Run.carried_out s i n states p) (told p)
    unfolding Run.carried_out Run.tested
    carried_effect n Plan.Deferred = unmarked_effect _ 1 n
    carried_effect n Plan.Skipped = unmarked_effect _ 0 n
    carried_effect n (Plan.Tested t) = by (Run.is_unresolved (says t))
      where
        all : List Charge
        all = Rule.ahead s i.rule ++ replicate (Run.asked (says t)) one

        by : (b : Bool) → Effect i k (state_at k states) (cond b (Run.unmarked all states 1 n) (record {
          charges = all;
          marks = Run.marks_from i.index 0 (says t);
          states = Run.all_afterwards i.index i.rule.stop states (says t);
          deferred = 0;
          simplified = n;
        })) (cond b Outcome.Passed (outcome_at k (says t)))
        by true = unmarked_effect all 1 n
        by false = marked_effect all n (says t) (outcomes_length s i.rule t s.regions states lengths ∙ sym lengths)

    -- by what the rule comes to
    pub step_effect : Effect i k (state_at k states) (Run.step s i states) (told (Rule.plan s i.rule))
    unfolding Run.step
    step_effect = carried_effect (cond (Rule.is_simplified s i.rule) 1 0) (Rule.plan s i.rule)

    -- what is told of a region is what the test says of it
    pub says_at : (t : Test) → k < length s.regions
        → outcome_at k (says t) ≡ Run.outcome s i.rule t (region_of s k) (state_at k states)
    says_at t h = outcomes_at s i.rule t s.regions states k h lengths

-- a region that is not stopped is stopped exactly by a mark of a rule with stop-if-true
pub stopped_after : (rule : ℕ) (stop : Bool) (state : RegionState) (o : Outcome) → state.stopped ≡ false
    → (Run.afterwards rule stop state o).stopped ≡ stop && is_painted o
unfolding Run.afterwards Run.painted is_painted
stopped_after rule stop state Outcome.Stopped free = free ∙ sym (and-false stop)
stopped_after rule stop state Outcome.Passed free = free ∙ sym (and-false stop)
stopped_after rule stop state Outcome.Unresolved free = free ∙ sym (and-false stop)
stopped_after rule stop state (Outcome.Painted p) free = rw (free, and-true stop)
