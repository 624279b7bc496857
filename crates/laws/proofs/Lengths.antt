-- Lengths that the definition keeps: a run has a state for each region, a job as many cells and regions as its columns, and a column
-- keeps its length. Assumes nothing.
use Prim.Native.Nat.{ℕ, zero, suc, ◌-◌, ◌≤◌}
use native.Mathlib.Omega.{arith}
use native.Mathlib.Nat.{sub-zero}
use mathlib.Core.Path.{◌≡◌, refl, ap, ◌∙◌}
use mathlib.Core.Bool.{Bool, true, false, cond}
use mathlib.Core.List.{List, [], ◌∷◌, ◌++◌, map}
use lib.ListN.{length, replicate, length-append, length-replicate}
use Rattle.charging.specs.Charge.{Charge, one}
use Rattle.model.specs.declared.Plan.{Plan}
use Rattle.model.specs.declared.Outcome.{Outcome}
use Rattle.model.specs.declared.Rule.{Rule}
use Rattle.model.specs.Sheet.{Sheet, CellColumns, cells_from, regions_from}
use Rattle.model.specs.Rule as Rule
use Rattle.model.specs.Run as Run
use Rattle.model.specs.Run.{Run, RegionState, IndexedRule}
use Rattle.model.specs.Columns.{column}

-- ---- the states of a run

afterwards_length : (rule : ℕ) (stop : Bool) (states : List RegionState) (os : List Outcome)
    → length (Run.all_afterwards rule stop states os) ≡ length states
unfolding Run.all_afterwards
afterwards_length rule stop [] os = refl
afterwards_length rule stop (x ∷ xs) [] = refl
afterwards_length rule stop (x ∷ xs) (o ∷ os) = ap suc (afterwards_length rule stop xs os)

tested_length : (i : IndexedRule) (ahead : List Charge) (simple : ℕ) (states : List RegionState) (os : List Outcome)
    → length (Run.tested i ahead simple states os).states ≡ length states
unfolding Run.tested Run.unmarked
tested_length i ahead simple states os = go (Run.is_unresolved os)
  where
    go : (b : Bool) → length (cond b (Run.unmarked (ahead ++ replicate (Run.asked os) one) states 1 simple) (record {
      charges = ahead ++ replicate (Run.asked os) one;
      marks = Run.marks_from i.index 0 os;
      states = Run.all_afterwards i.index i.rule.stop states os;
      deferred = 0;
      simplified = simple;
    })).states ≡ length states
    go true = refl
    go false = afterwards_length i.index i.rule.stop states os

-- a rule keeps the number of states
pub step_length : (s : Sheet) (i : IndexedRule) (states : List RegionState) → length (Run.step s i states).states ≡ length states
unfolding Run.step Run.carried_out Run.unmarked
step_length s i states = go (Rule.plan s i.rule)
  where
    go : (p : Plan) → length (Run.carried_out s i (cond (Rule.is_simplified s i.rule) 1 0) states p).states ≡ length states
    go Plan.Deferred = refl
    go Plan.Skipped = refl
    go (Plan.Tested t) =
        tested_length i (Rule.ahead s i.rule) (cond (Rule.is_simplified s i.rule) 1 0) states
        (Run.outcomes s i.rule t s.regions states)

run_from_length : (s : Sheet) (is : List IndexedRule) (states : List RegionState) → length (Run.run_from s is states).states ≡ length states
unfolding Run.run_from Run.unmarked Run.followed_by
run_from_length s [] states = refl
run_from_length s (i ∷ is) states = run_from_length s is (Run.step s i states).states ∙ step_length s i states

-- a run has a state for each region
pub run_states : (s : Sheet) (rules : List Rule) → length (Run.run s rules).states ≡ length s.regions
unfolding Run.run
run_states s rules =
    run_from_length s (Run.ordered rules) (replicate (length s.regions) Run.untouched)
    ∙ length-replicate (length s.regions) Run.untouched

-- ---- a job's cells and regions

pub cells_length : (c : CellColumns) (i n : ℕ) → length (cells_from c i n) ≡ n
unfolding cells_from
cells_length c i zero = refl
cells_length c i (suc n) = ap suc (cells_length c (suc i) n)

pub regions_length : (rows cols : List ℕ) (i n : ℕ) → length (regions_from rows cols i n) ≡ n
unfolding regions_from
regions_length rows cols i zero = refl
regions_length rows cols i (suc n) = ap suc (regions_length rows cols (suc i) n)

-- ---- columns

map_length : {A : Type 0} (f : A → ℕ) (xs : List A) → length (map f xs) ≡ length xs
map_length f [] = refl
map_length f (x ∷ xs) = ap suc (map_length f xs)

-- a column keeps its length where the entries fit
pub column_length : {A : Type 0} (n : ℕ) (f : A → ℕ) (xs : List A) → length xs ≤ n → length (column n f xs) ≡ n
unfolding column
column_length n f xs h =
    length-append (map f xs) (replicate (n - length xs) 0) ∙ omega (arith, map_length f xs, length-replicate {A = ℕ} (n - length xs) 0)

-- without entries a column is 0 from end to end
pub column_none : {A : Type 0} (n : ℕ) (f : A → ℕ) → column n f [] ≡ replicate n 0
unfolding column
column_none n f = ap (λ (m : ℕ). replicate m 0) (sub-zero n)
