-- The run of the job in LongestJob.antt: the rule with the index 10 gives every region a bar of 1,000,000 ppm and stops it, the ten
-- ahead of it are deferred, and the nine behind it are simplified and find all regions stopped. Assumes nothing.
use Rattle.std.specs.Prelude.{None}
use Prim.Native.Nat.{ℕ, zero, suc, ◌+◌, ◌≤◌, ◌<◌}
use native.Mathlib.Omega.{arith}
use mathlib.Core.Path.{◌≡◌, refl, ap, ◌∙◌}
use mathlib.Core.Bool.{Bool, true, false, cond, ◌&&◌}
use mathlib.Core.List.{List, [], ◌∷◌, ◌++◌}
use mathlib.Core.Option.{some}
use lib.Dec.{eqb}
use lib.Ieee.{binary64, of_bits}
use lib.ListN.{length, replicate}
use borrow.Author.Tests.{le-leb, eqb-false}
use Rattle.charging.specs.Charge.{one}
use Rattle.model.specs.declared.CfRule.{CfRule}
use Rattle.model.specs.declared.ConditionalComparison.{ConditionalComparison}
use Rattle.model.specs.declared.ConditionalOperand.{ConditionalOperand}
use Rattle.model.specs.declared.Outcome.{Outcome}
use Rattle.model.specs.declared.Rule.{Rule}
use Rattle.model.specs.declared.Test.{Test}
use Rattle.model.specs.Sheet.{cell_at, same_coordinate, in_range}
use Rattle.model.specs.Readings.{numeric_at, numeric_of}
use Rattle.model.specs.Ratio.{normalized}
use Rattle.model.specs.Rule as Rule
use Rattle.model.specs.Run as Run
use Rattle.model.specs.Run.{Run, RegionState, IndexedRule, untouched}
use Rattle.model.specs.Job.{rules_of}
use Rattle.model.proofs.Computing.{jobs}
use Rattle.jobtext.proofs.Computing.{laying}
use Rattle.textlaws.proofs.LongestJob.{at, black, regions_down, repeat, lent, sheet, zero_cell, cells_at}

-- ---- the rules in their order

abbrev rule_of : ℕ → Bool → CfRule → Rule
rule_of bottom stop kind =
    record {
      range = record { top = 0; left = 0; bottom = bottom; right = 0 };
      priority = None;
      stop = stop;
      imported = false;
      kind = kind;
    }

abbrev indexed : ℕ → Rule → IndexedRule
indexed index rule = record { index = index; rule = rule }

abbrev deferred_rule : Rule
deferred_rule =
    rule_of 0 false (CfRule.Expression ConditionalComparison.Equal ConditionalOperand.Unread ConditionalOperand.Unread black)

abbrev stopping_rule : Rule
stopping_rule = rule_of 1023 true (CfRule.DataBar black)

abbrev later_rule : Rule
later_rule = rule_of 0 false (CfRule.DataBar black)

-- k times a rule, from an index on, ahead of some others
unfoldable indexed_times : ℕ → ℕ → Rule → List IndexedRule → List IndexedRule
indexed_times zero index rule rest = rest
indexed_times (suc k) index rule rest = indexed index rule ∷ indexed_times k (suc index) rule rest

rules_are : Run.ordered (rules_of lent)
    ≡ indexed_times 10 0 deferred_rule (indexed 10 stopping_rule ∷ indexed_times 9 11 later_rule [])
unfolding laying jobs repeat indexed_times
rules_are = refl

-- ---- the rule that stops every region

abbrev pub barred : Outcome
barred = Outcome.Painted (record { kind = 3; colour = 0; ppm = 1_000_000; shape = 1 })

cell_found : (row n i : ℕ) → row ≤ i → i < row + n → cell_at (cells_at row n) (at i) ≡ some zero_cell
unfolding cell_at same_coordinate cells_at
cell_found row zero i a b = absurd (omega arith)
cell_found row (suc n) i a b = go (eqb row i) refl (λ h. cell_found (suc row) n i h (omega arith))
  where
    go : (x : Bool) → eqb row i ≡ x → (suc row ≤ i → cell_at (cells_at (suc row) n) (at i) ≡ some zero_cell)
        → cond (x && true) (some zero_cell) (cell_at (cells_at (suc row) n) (at i)) ≡ some zero_cell
    go true e later = refl
    go false e later = later (omega (arith, eqb-false row i e))

abbrev test : Test
test = Test.DataBar black (of_bits binary64 0) (of_bits binary64 0)

-- flat ends
bar_of_zero : Rule.on_value (numeric_of (some zero_cell)) (λ x. Rule.barred false black (normalized x (of_bits binary64 0) (of_bits binary64 0)))
    ≡ barred
unfolding jobs
bar_of_zero = refl

outcome_is : (i : ℕ) → i < 1024 → Run.outcome sheet stopping_rule test (at i) untouched ≡ barred
unfolding Run.outcome Rule.verdict in_range numeric_at
outcome_is i h =
    rw (le-leb 0 i (omega arith), le-leb i 1023 (omega arith), cell_found 0 1024 i (omega arith) (omega arith)) bar_of_zero

outcomes_are : (i n : ℕ) → i + n ≤ 1024
    → Run.outcomes sheet stopping_rule test (regions_down i n) (replicate n untouched) ≡ replicate n barred
unfolding Run.outcomes regions_down
outcomes_are i zero h = refl
outcomes_are i (suc n) h = rw (outcome_is i (omega arith), outcomes_are (suc i) n (omega arith))

-- ---- step by step

abbrev pub stopped : RegionState
stopped = record { stopped = true; bar_rule = 11; bar_ppm = 1_000_000 }

unfoldable pub fresh : List RegionState
fresh = replicate 1024 untouched

unfoldable pub stops : List RegionState
stops = replicate 1024 stopped

-- one charge for each cell, then one for each region
unfoldable pub stopping_run : Run
stopping_run =
    record {
      charges = replicate 1024 one ++ replicate 1024 one;
      marks = Run.marks_from 10 0 (replicate 1024 barred);
      states = stops;
      deferred = 0;
      simplified = 1;
    }

deferred_step : (index : ℕ) (states : List RegionState)
    → Run.step sheet (indexed index deferred_rule) states ≡ Run.unmarked [] states 1 0
unfolding jobs
deferred_step index states = refl

-- what the rule comes to, with the outcomes left as they are
stopping_plan : Run.step sheet (indexed 10 stopping_rule) fresh
    ≡ Run.tested (indexed 10 stopping_rule) (replicate 1024 one) 1 fresh (Run.outcomes sheet stopping_rule test (regions_down 0 1024) fresh)
unfolding jobs cells_at
stopping_plan = refl

asked_all : (n : ℕ) → Run.asked (replicate n barred) ≡ n
unfolding Run.asked
asked_all zero = refl
asked_all (suc n) = ap suc (asked_all n)

resolved_all : (n : ℕ) → Run.is_unresolved (replicate n barred) ≡ false
unfolding Run.is_unresolved
resolved_all zero = refl
resolved_all (suc n) = resolved_all n

stopped_all : (n : ℕ) → Run.all_afterwards 10 true (replicate n untouched) (replicate n barred) ≡ replicate n stopped
unfolding Run.all_afterwards Run.afterwards Run.painted Run.has_bar
stopped_all zero = refl
stopped_all (suc n) = ap (λ (l : List RegionState). stopped ∷ l) (stopped_all n)

stopping_tested : Run.tested (indexed 10 stopping_rule) (replicate 1024 one) 1 fresh (replicate 1024 barred) ≡ stopping_run
unfolding Run.tested fresh stops stopping_run
stopping_tested = rw (asked_all 1024, resolved_all 1024, stopped_all 1024)

fresh_outcomes : Run.outcomes sheet stopping_rule test (regions_down 0 1024) fresh ≡ replicate 1024 barred
unfolding fresh
fresh_outcomes = outcomes_are 0 1024 (omega arith)

stopping_step : Run.step sheet (indexed 10 stopping_rule) fresh ≡ stopping_run
stopping_step = stopping_plan ∙ rw fresh_outcomes stopping_tested

later_step : (index : ℕ) → Run.step sheet (indexed index later_rule) stops ≡ Run.unmarked (one ∷ []) stops 0 1
unfolding jobs cells_at regions_down stops
later_step index = refl

-- ---- the run

unfoldable pub deferred_then : ℕ → Run → Run
deferred_then zero r = r
deferred_then (suc k) r = Run.followed_by (Run.unmarked [] fresh 1 0) (deferred_then k r)

unfoldable pub later_runs : ℕ → Run
later_runs zero = Run.unmarked [] stops 0 0
later_runs (suc k) = Run.followed_by (Run.unmarked (one ∷ []) stops 0 1) (later_runs k)

run_deferred : (k index : ℕ) (rest : List IndexedRule)
    → Run.run_from sheet (indexed_times k index deferred_rule rest) fresh ≡ deferred_then k (Run.run_from sheet rest fresh)
unfolding Run.run_from Run.unmarked indexed_times deferred_then
run_deferred zero index rest = refl
run_deferred (suc k) index rest = rw (deferred_step index fresh, run_deferred k (suc index) rest)

run_later : (k index : ℕ) → Run.run_from sheet (indexed_times k index later_rule []) stops ≡ later_runs k
unfolding Run.run_from Run.unmarked indexed_times later_runs
run_later zero index = refl
run_later (suc k) index = rw (later_step index, run_later k (suc index))

unfoldable pub longest_run : Run
longest_run = deferred_then 10 (Run.followed_by stopping_run (later_runs 9))

fresh_is : replicate (length (regions_down 0 1024)) untouched ≡ fresh
unfolding regions_down fresh
fresh_is = refl

stops_is : stopping_run.states ≡ stops
unfolding stopping_run
stops_is = refl

pub run_is : Run.run sheet (rules_of lent) ≡ longest_run
unfolding Run.run Run.run_from longest_run
run_is =
    rw (
      rules_are,
      fresh_is,
      run_deferred 10 0 (indexed 10 stopping_rule ∷ indexed_times 9 11 later_rule []),
      stopping_step,
      stops_is,
      run_later 9 11,
    )

-- its parts, for computing
unfoldable pub running : Unit {0}
unfolding fresh stops stopping_run deferred_then later_runs longest_run
running = tt
