-- What is judged of a plan is what the definition makes of it: the outcomes of regions whose stop flags say which of them are stopped, the
-- charges, and whether the rule is deferred. Assumes nothing.
use Prim.Native.Nat.{ℕ, zero, suc, ◌+◌, ◌≤◌, ◌<◌}
use native.Mathlib.Omega.{arith}
use mathlib.Core.Path.{◌≡◌, refl, sym, ap, ◌∙◌}
use mathlib.Core.Bool.{Bool, true, false, cond, not}
use mathlib.Core.List.{List, [], ◌∷◌, ◌++◌, append-nil}
use lib.Dec.{eqb}
use lib.ListN.{length, get_or, replicate}
use Rattle.charging.specs.Charge.{Charge, one}
use Rattle.model.specs.declared.CellCoordinate.{CellCoordinate}
use Rattle.model.specs.declared.Outcome.{Outcome}
use Rattle.model.specs.declared.Plan.{Plan}
use Rattle.model.specs.declared.Rule.{Rule}
use Rattle.model.specs.declared.Test.{Test}
use Rattle.model.specs.Sheet.{Sheet, regions_from}
use Rattle.model.specs.Rule.{ahead}
use Rattle.model.specs.Run.{Run, RegionState, IndexedRule, untouched, outcome, outcomes, asked, is_unresolved, marks_from, all_afterwards}
use Rattle.model.specs.Run.{unmarked, tested, carried_out}
use Rattle.cells.specs.Columns.{coordinate_at}
use Rattle.turns.specs.Step.{flagged, outcomes_from, Judged, judged_as, judged_of, judged_in}

-- ---- outcomes by the stop flags

-- n states, of which the k-th is stopped just when the flag at i + k is not 0
pub record StoppedBy (flags : List ℕ) (i n : ℕ) (states : List RegionState) : Type 0 where
  pub many : length states ≡ n
  pub flag : (k : ℕ) → k < n → (get_or states k untouched).stopped ≡ not (eqb (get_or flags (i + k) 0) 0)

stopped_later : {flags : List ℕ} {i n : ℕ} {a : RegionState} {states : List RegionState} → StoppedBy flags i (suc n) (a ∷ states)
    → StoppedBy flags (suc i) n states
stopped_later {flags} {i} h =
    record {
      many = omega (arith, h.many);
      flag = λ k b. let onward : i + suc k ≡ suc i + k = omega arith in rw onward at (h.flag (suc k) (omega arith));
    }

module _ (s : Sheet) (r : Rule) (t : Test) where
  -- a bar has no part in an outcome
  outcome_alike : (at : CellCoordinate) (a b : RegionState) → a.stopped ≡ b.stopped → outcome s r t at a ≡ outcome s r t at b
  unfolding outcome
  outcome_alike at a b h = rw h

  pub outcomes_from_lem : (rows cols flags : List ℕ) (i n : ℕ) (states : List RegionState) → StoppedBy flags i n states
      → outcomes s r t (regions_from rows cols i n) states ≡ outcomes_from s r t rows cols flags i n
  unfolding outcomes outcomes_from regions_from
  outcomes_from_lem rows cols flags i zero states h = refl
  outcomes_from_lem rows cols flags i (suc n) [] h = absurd (omega (arith, h.many))
  outcomes_from_lem rows cols flags i (suc n) (a ∷ states) h =
      let first : i + 0 ≡ i = omega arith in
      let flag = rw first at (h.flag 0 (omega arith)) in
      let later = outcomes_from_lem rows cols flags (suc i) n states (stopped_later h) in
      rw (outcome_alike (coordinate_at rows cols i) a (flagged (get_or flags i 0)) flag, later)

  outcomes_few : (ats : List CellCoordinate) (states : List RegionState) → length (outcomes s r t ats states) ≤ length states
  unfolding outcomes
  outcomes_few [] states = omega arith
  outcomes_few (at ∷ ats) [] = omega arith
  outcomes_few (at ∷ ats) (a ∷ states) = omega (arith, outcomes_few ats states)

-- ---- what is judged

-- `charges` are those ahead of the regions, `given` the states that the rules so far left
pub record Judges (i : IndexedRule) (charges : List Charge) (given : List RegionState) (simplified : ℕ) (run : Run) (j : Judged)
    : Type 0 where
  pub short : length j.outcomes ≤ length given
  pub marks : run.marks ≡ marks_from i.index 0 j.outcomes
  pub states : run.states ≡ all_afterwards i.index i.rule.stop given j.outcomes
  pub deferred : run.deferred ≡ cond j.unresolved 1 0
  pub simple : run.simplified ≡ simplified
  pub charged : run.charges ≡ charges ++ replicate j.asked one

afterwards_none : (rule : ℕ) (stop : Bool) (states : List RegionState) → states ≡ all_afterwards rule stop states []
unfolding all_afterwards
afterwards_none rule stop [] = refl
afterwards_none rule stop (a ∷ states) = refl

module _ (i : IndexedRule) (charges : List Charge) (simplified : ℕ) (given : List RegionState) where
  judges_nothing : (unresolved : Bool) (asked : ℕ)
      → Judges i charges given simplified (unmarked (charges ++ replicate asked one) given (cond unresolved 1 0) simplified)
      (judged_as [] asked unresolved)
  unfolding unmarked marks_from
  judges_nothing unresolved asked =
      record {
        short = omega arith;
        marks = refl;
        states = afterwards_none i.index i.rule.stop given;
        deferred = refl;
        simple = refl;
        charged = refl;
      }

  judges_untested : (unresolved : Bool)
      → Judges i charges given simplified (unmarked charges given (cond unresolved 1 0) simplified) (judged_as [] 0 unresolved)
  judges_untested unresolved = rw append-nil at (judges_nothing unresolved 0)

  judges_outcomes : (os : List Outcome) → length os ≤ length given
      → Judges i charges given simplified (tested i charges simplified given os) (judged_of os)
  unfolding tested judged_of
  judges_outcomes os h = go (is_unresolved os) (judges_nothing true (asked os))
    where
      go : (b : Bool)
          → Judges i charges given simplified (unmarked (charges ++ replicate (asked os) one) given 1 simplified) (judged_as [] (asked os) true)
          → Judges i charges given simplified (cond b (unmarked (charges ++ replicate (asked os) one) given 1 simplified) (record {
            charges = charges ++ replicate (asked os) one;
            marks = marks_from i.index 0 os;
            states = all_afterwards i.index i.rule.stop given os;
            deferred = 0;
            simplified = simplified;
          }))
          (judged_as (cond b [] os) (asked os) b)
      go true nothing = nothing
      go false nothing = record { short = h; marks = refl; states = refl; deferred = refl; simple = refl; charged = refl }

module _ (s : Sheet) (i : IndexedRule) (rows cols flags : List ℕ) (regions : s.regions ≡ regions_from rows cols 0 (length rows))
    (simplified : ℕ) (given : List RegionState) (stopped : StoppedBy flags 0 (length rows) given) where
  outcomes_judged : (t : Test) → outcomes_from s i.rule t rows cols flags 0 (length rows) ≡ outcomes s i.rule t s.regions given
  outcomes_judged t =
      sym (outcomes_from_lem s i.rule t rows cols flags 0 (length rows) given stopped)
      ∙ ap (λ (ats : List CellCoordinate). outcomes s i.rule t ats given) (sym regions)

  pub judges : (p : Plan)
      → Judges i (ahead s i.rule) given simplified (carried_out s i simplified given p) (judged_in s i.rule rows cols flags p)
  unfolding carried_out judged_in
  judges Plan.Deferred = judges_untested i (ahead s i.rule) simplified given true
  judges Plan.Skipped = judges_untested i (ahead s i.rule) simplified given false
  judges (Plan.Tested t) =
      rw (outcomes_judged t)
      (judges_outcomes i (ahead s i.rule) simplified given (outcomes s i.rule t s.regions given)
      (outcomes_few s i.rule t s.regions given))
