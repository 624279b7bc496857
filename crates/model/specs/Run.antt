-- The rules one after the other over the regions: charges, marks, stopped regions and bars, and the order of the rules
-- (document 01, 'Rules'). A run knows no limit and no end of the mark space. Assumes nothing.
use Rattle.std.specs.Prelude.{ℕ, suc, ◌+◌, Bool, true, false, cond, ◌&&◌, ◌||◌, List, [], ◌∷◌, ◌++◌, leb, ltb, eqb, length, replicate, Some, None}
use Rattle.charging.specs.Charge.{Charge, one}
use Rattle.model.specs.declared.CellCoordinate.{CellCoordinate}
use Rattle.model.specs.Options.{Priority}
use Rattle.model.specs.declared.Rule.{Rule}
use Rattle.model.specs.declared.Test.{Test}
use Rattle.model.specs.declared.Plan.{Plan}
use Rattle.model.specs.declared.Paint.{Paint}
use Rattle.model.specs.declared.Outcome.{Outcome}
use Rattle.model.specs.Sheet.{Sheet, in_range}
use Rattle.model.specs.Sorting.{sort_by}
use Rattle.model.specs.Rule.{ahead, plan, is_simplified, verdict}

pub record Mark : Type 0 where
  pub region : ℕ
  pub rule : ℕ
  pub paint : Paint

-- what the rules so far left at a region: whether it is stopped, and its bar, the rule plus one (0 for none) and the ppm
pub record RegionState : Type 0 where
  pub stopped : Bool
  pub bar_rule : ℕ
  pub bar_ppm : ℕ

abbrev pub untouched : RegionState
untouched = record { stopped = false; bar_rule = 0; bar_ppm = 0 }

-- ---- a rule over the regions

unfoldable pub outcome : Sheet → Rule → Test → CellCoordinate → RegionState → Outcome
outcome s r test at state =
    let found = verdict s r at test in
    cond state.stopped Outcome.Stopped (cond (in_range r.range at) found Outcome.Passed)

unfoldable pub outcomes : Sheet → Rule → Test → List CellCoordinate → List RegionState → List Outcome
outcomes s r test [] states = []
outcomes s r test (at ∷ ats) [] = []
outcomes s r test (at ∷ ats) (state ∷ states) = outcome s r test at state ∷ outcomes s r test ats states

-- how many regions are charged: all that are not stopped, in range or not, up to the first that leaves the rule unresolved
unfoldable pub asked : List Outcome → ℕ
asked [] = 0
asked (Outcome.Stopped ∷ os) = asked os
asked (Outcome.Passed ∷ os) = suc (asked os)
asked (Outcome.Unresolved ∷ os) = 1
asked (Outcome.Painted p ∷ os) = suc (asked os)

unfoldable pub is_unresolved : List Outcome → Bool
is_unresolved [] = false
is_unresolved (Outcome.Stopped ∷ os) = is_unresolved os
is_unresolved (Outcome.Passed ∷ os) = is_unresolved os
is_unresolved (Outcome.Unresolved ∷ os) = true
is_unresolved (Outcome.Painted p ∷ os) = is_unresolved os

-- the marks of a rule, the regions counted from `region` on
unfoldable pub marks_from : ℕ → ℕ → List Outcome → List Mark
marks_from rule region [] = []
marks_from rule region (Outcome.Stopped ∷ os) = marks_from rule (suc region) os
marks_from rule region (Outcome.Passed ∷ os) = marks_from rule (suc region) os
marks_from rule region (Outcome.Unresolved ∷ os) = marks_from rule (suc region) os
marks_from rule region (Outcome.Painted p ∷ os) = record { region = region; rule = rule; paint = p } ∷ marks_from rule (suc region) os

-- kinds 3 and 4
unfoldable pub has_bar : Paint → Bool
has_bar p = leb 3 p.kind

-- a region's bar is its first one, and a mark of a rule with stop-if-true stops it
unfoldable pub painted : ℕ → Bool → RegionState → Paint → RegionState
painted rule stop state p =
    let first = has_bar p && eqb state.bar_rule 0 in
    record {
      stopped = state.stopped || stop;
      bar_rule = cond first (suc rule) state.bar_rule;
      bar_ppm = cond first p.ppm state.bar_ppm;
    }

unfoldable pub afterwards : ℕ → Bool → RegionState → Outcome → RegionState
afterwards rule stop state Outcome.Stopped = state
afterwards rule stop state Outcome.Passed = state
afterwards rule stop state Outcome.Unresolved = state
afterwards rule stop state (Outcome.Painted p) = painted rule stop state p

unfoldable pub all_afterwards : ℕ → Bool → List RegionState → List Outcome → List RegionState
all_afterwards rule stop [] os = []
all_afterwards rule stop (state ∷ states) [] = state ∷ states
all_afterwards rule stop (state ∷ states) (o ∷ os) = afterwards rule stop state o ∷ all_afterwards rule stop states os

-- ---- a run

pub record Run : Type 0 where
  pub charges : List Charge
  pub marks : List Mark
  pub states : List RegionState
  pub deferred : ℕ
  pub simplified : ℕ

-- a rule with the index that it has in the job
pub record IndexedRule : Type 0 where
  pub index : ℕ
  pub rule : Rule

-- what a rule leaves that gives no marks
unfoldable pub unmarked : List Charge → List RegionState → ℕ → ℕ → Run
unmarked charges states deferred simplified =
    record { charges = charges; marks = []; states = states; deferred = deferred; simplified = simplified }

-- a rule that was tested; one that is unresolved is deferred, and its marks are dropped
unfoldable pub tested : IndexedRule → List Charge → ℕ → List RegionState → List Outcome → Run
tested i charges simplified states os =
    let all = charges ++ replicate (asked os) one in
    cond (is_unresolved os) (unmarked all states 1 simplified)
    (record {
      charges = all;
      marks = marks_from i.index 0 os;
      states = all_afterwards i.index i.rule.stop states os;
      deferred = 0;
      simplified = simplified;
    })

unfoldable pub carried_out : Sheet → IndexedRule → ℕ → List RegionState → Plan → Run
carried_out s i simplified states Plan.Deferred = unmarked (ahead s i.rule) states 1 simplified
carried_out s i simplified states Plan.Skipped = unmarked (ahead s i.rule) states 0 simplified
carried_out s i simplified states (Plan.Tested test) =
    tested i (ahead s i.rule) simplified states (outcomes s i.rule test s.regions states)

unfoldable pub step : Sheet → IndexedRule → List RegionState → Run
step s i states = carried_out s i (cond (is_simplified s i.rule) 1 0) states (plan s i.rule)

-- one run after another
unfoldable pub followed_by : Run → Run → Run
followed_by a b =
    record {
      charges = a.charges ++ b.charges;
      marks = a.marks ++ b.marks;
      states = b.states;
      deferred = a.deferred + b.deferred;
      simplified = a.simplified + b.simplified;
    }

unfoldable pub run_from : Sheet → List IndexedRule → List RegionState → Run
run_from s [] states = unmarked [] states 0 0
run_from s (i ∷ is) states = let a = step s i states in followed_by a (run_from s is a.states)

-- ---- the order of the rules

-- a written priority, or the index + 1
unfoldable pub precedence_of : ℕ → Priority → ℕ
precedence_of index (Some p) = p
precedence_of index None = suc index

abbrev pub precedence : IndexedRule → ℕ
precedence i = precedence_of i.index i.rule.priority

unfoldable pub earlier : IndexedRule → IndexedRule → Bool
earlier i j = ltb (precedence i) (precedence j) || (eqb (precedence i) (precedence j) && ltb i.index j.index)

unfoldable pub indexed_from : ℕ → List Rule → List IndexedRule
indexed_from index [] = []
indexed_from index (r ∷ rs) = record { index = index; rule = r } ∷ indexed_from (suc index) rs

unfoldable pub ordered : List Rule → List IndexedRule
ordered rules = sort_by earlier (indexed_from 0 rules)

-- all rules of a job, from regions that no rule has touched
unfoldable pub run : Sheet → List Rule → Run
run s rules = run_from s (ordered rules) (replicate (length s.regions) untouched)
