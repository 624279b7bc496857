-- How many evaluations a run can charge: rules × (regions + cells), and the areas of the duplicate rules; and no charge is 0.
-- Assumes nothing.
use Prim.Native.Nat.{ℕ, suc, ◌+◌, ◌*◌, ◌≤◌}
use native.Mathlib.Omega.{arith}
use mathlib.Core.Path.{◌≡◌, refl, ◌∙◌}
use mathlib.Core.Bool.{Bool, true, false, cond}
use mathlib.Core.List.{List, [], ◌∷◌, ◌++◌}
use lib.ListN.{length, replicate}
use Rattle.charging.specs.Charge.{Charge, one, size, total}
use Rattle.model.specs.declared.CellCoordinate.{CellCoordinate}
use Rattle.model.specs.declared.Range.{Range}
use Rattle.model.specs.declared.CfRule.{CfRule}
use Rattle.model.specs.declared.Rule.{Rule}
use Rattle.model.specs.declared.Test.{Test}
use Rattle.model.specs.declared.Plan.{Plan}
use Rattle.model.specs.declared.Outcome.{Outcome}
use Rattle.model.specs.Sheet.{Sheet, CellAt, in_range, upright, within_grid, area}
use Rattle.model.specs.Sorting.{insert, sort_by}
use Rattle.model.specs.Rule as Rule
use Rattle.model.specs.Run as Run
use Rattle.model.specs.Run.{Run, RegionState, IndexedRule}
use Rattle.laws.specs.Demands.{area_of_kind, duplicate_areas}
use Rattle.laws.proofs.Spending.{total_append, total_ones, Charging, charging_append, charging_ones}

-- charges of at most n together, none of them 0
pub record AtMost (n : ℕ) (charges : List Charge) : Type 0 where
  pub most : total charges ≤ n
  pub charging : Charging charges

pub at_most_more : {n m : ℕ} {charges : List Charge} → n ≤ m → AtMost n charges → AtMost m charges
at_most_more h a = record { most = omega arith; charging = a.charging }

pub at_most_append : {n m : ℕ} (a b : List Charge) → AtMost n a → AtMost m b → AtMost (n + m) (a ++ b)
at_most_append a b p q =
    record { most = simp total_append (omega (arith, p.most, q.most)); charging = charging_append a b p.charging q.charging }

at_most_none : {n : ℕ} → AtMost n []
unfolding total
at_most_none = record { most = omega arith; charging = tt }

at_most_ones : (n : ℕ) {m : ℕ} → n ≤ m → AtMost m (replicate n one)
at_most_ones n h = record { most = rw total_ones h; charging = charging_ones n }

at_most_area : (r : Range) → AtMost (area r) (Charge.area (area r) ∷ [])
unfolding total size area
at_most_area r = record { most = omega arith; charging = (omega arith, tt) }

-- ---- ahead of the regions

cells_in_length : (r : Range) (cs : List CellAt) → length (Rule.cells_in r cs) ≤ length cs
unfolding Rule.cells_in
cells_in_length r [] = omega arith
cells_in_length r (c ∷ cs) = go (in_range r c.at) (cells_in_length r cs)
  where
    go : (b : Bool) → length (Rule.cells_in r cs) ≤ length cs → length (cond b (c ∷ Rule.cells_in r cs) (Rule.cells_in r cs)) ≤ suc (length cs)
    go true h = omega arith
    go false h = omega arith

module _ (s : Sheet) (r : Rule) where
  abbrev ahead_bound : ℕ
  ahead_bound = length s.cells + area_of_kind r r.kind

  cell_charges_bound : AtMost (length s.cells + 0) (Rule.cell_charges s r.range)
  unfolding Rule.cell_charges
  cell_charges_bound = at_most_ones (length (Rule.cells_in r.range s.cells)) (omega (arith, cells_in_length r.range s.cells))

  upright_bound : (k : CfRule) → upright r.range ≡ true → AtMost (length s.cells + area_of_kind r k) (Rule.ahead_of s r.range k)
  unfolding Rule.ahead_of
  upright_bound (CfRule.CellIs op first second fill) u = at_most_none
  upright_bound (CfRule.ColorScale2 min max) u = cell_charges_bound
  upright_bound (CfRule.ColorScale3 min mid max) u = cell_charges_bound
  upright_bound (CfRule.DataBar color) u = cell_charges_bound
  upright_bound (CfRule.TopBottom rank bottom percent fill) u = cell_charges_bound
  upright_bound (CfRule.AboveAverage below fill) u = cell_charges_bound
  upright_bound (CfRule.DuplicateValues unique fill) u = rw u (go (within_grid r.range))
    where
      go : (b : Bool) → AtMost (length s.cells + cond b (area r.range) 0) (cond b (Charge.area (area r.range) ∷ []) [])
      go true = at_most_more (omega arith) (at_most_area r.range)
      go false = at_most_none
  upright_bound (CfRule.Expression op left right fill) u = at_most_none

  ahead_bound_lem : AtMost ahead_bound (Rule.ahead s r)
  unfolding Rule.ahead
  ahead_bound_lem = go (upright r.range) refl
    where
      go : (b : Bool) → upright r.range ≡ b → AtMost ahead_bound (cond b (Rule.ahead_of s r.range r.kind) [])
      go true u = upright_bound r.kind u
      go false u = at_most_none

-- ---- over the regions

asked_most : (os : List Outcome) → Run.asked os ≤ length os
unfolding Run.asked
asked_most [] = omega arith
asked_most (Outcome.Stopped ∷ os) = omega (arith, asked_most os)
asked_most (Outcome.Passed ∷ os) = omega (arith, asked_most os)
asked_most (Outcome.Unresolved ∷ os) = omega arith
asked_most (Outcome.Painted p ∷ os) = omega (arith, asked_most os)

outcomes_length : (s : Sheet) (r : Rule) (t : Test) (ats : List CellCoordinate) (states : List RegionState)
    → length (Run.outcomes s r t ats states) ≤ length ats
unfolding Run.outcomes
outcomes_length s r t [] states = omega arith
outcomes_length s r t (at ∷ ats) [] = omega arith
outcomes_length s r t (at ∷ ats) (state ∷ states) = omega (arith, outcomes_length s r t ats states)

tested_bound : (i : IndexedRule) (ahead : List Charge) (simple : ℕ) (states : List RegionState) (os : List Outcome) {n m : ℕ}
    → AtMost n ahead → length os ≤ m → AtMost (n + m) (Run.tested i ahead simple states os).charges
unfolding Run.tested Run.unmarked
tested_bound i ahead simple states os {n} {m} a h = go (Run.is_unresolved os)
  where
    all : AtMost (n + m) (ahead ++ replicate (Run.asked os) one)
    all = at_most_append ahead (replicate (Run.asked os) one) a (at_most_ones (Run.asked os) (omega (arith, asked_most os)))

    go : (b : Bool) → AtMost (n + m) (cond b (Run.unmarked (ahead ++ replicate (Run.asked os) one) states 1 simple) (record {
      charges = ahead ++ replicate (Run.asked os) one;
      marks = Run.marks_from i.index 0 os;
      states = Run.all_afterwards i.index i.rule.stop states os;
      deferred = 0;
      simplified = simple;
    })).charges
    go true = all
    go false = all

module _ (s : Sheet) where
  abbrev rule_bound : Rule → ℕ
  rule_bound r = length s.cells + area_of_kind r r.kind + length s.regions

  step_bound : (i : IndexedRule) (states : List RegionState) → AtMost (rule_bound i.rule) (Run.step s i states).charges
  unfolding Run.step Run.carried_out Run.unmarked
  step_bound i states = go (Rule.plan s i.rule)
    where
      simple : ℕ
      simple = cond (Rule.is_simplified s i.rule) 1 0

      go : (p : Plan) → AtMost (rule_bound i.rule) (Run.carried_out s i simple states p).charges
      go Plan.Deferred = at_most_more (omega arith) (ahead_bound_lem s i.rule)
      go Plan.Skipped = at_most_more (omega arith) (ahead_bound_lem s i.rule)
      go (Plan.Tested t) =
          tested_bound i (Rule.ahead s i.rule) simple states (Run.outcomes s i.rule t s.regions states)
          (ahead_bound_lem s i.rule) (outcomes_length s i.rule t s.regions states)

  -- ---- the rules in their order

  unfoldable run_bound : List IndexedRule → ℕ
  run_bound [] = 0
  run_bound (i ∷ is) = rule_bound i.rule + run_bound is

  run_from_bound : (is : List IndexedRule) (states : List RegionState) → AtMost (run_bound is) (Run.run_from s is states).charges
  unfolding Run.run_from Run.unmarked Run.followed_by run_bound
  run_from_bound [] states = at_most_none
  run_from_bound (i ∷ is) states =
      at_most_append (Run.step s i states).charges (Run.run_from s is (Run.step s i states).states).charges
      (step_bound i states) (run_from_bound is (Run.step s i states).states)

  insert_bound : (i : IndexedRule) (is : List IndexedRule) → run_bound (insert Run.earlier i is) ≡ rule_bound i.rule + run_bound is
  unfolding insert run_bound
  insert_bound i [] = refl
  insert_bound i (j ∷ js) = go (Run.earlier j i) (insert_bound i js)
    where
      go : (b : Bool) → run_bound (insert Run.earlier i js) ≡ rule_bound i.rule + run_bound js
          → run_bound (cond b (j ∷ insert Run.earlier i js) (i ∷ j ∷ js)) ≡ rule_bound i.rule + (rule_bound j.rule + run_bound js)
      go true h = omega arith
      go false h = refl

  sorted_bound : (is : List IndexedRule) → run_bound (sort_by Run.earlier is) ≡ run_bound is
  unfolding sort_by run_bound
  sorted_bound [] = refl
  sorted_bound (i ∷ is) = insert_bound i (sort_by Run.earlier is) ∙ omega (arith, sorted_bound is)

  indexed_bound : (index : ℕ) (rs : List Rule)
      → run_bound (Run.indexed_from index rs) ≡ length rs * (length s.regions + length s.cells) + duplicate_areas rs
  unfolding Run.indexed_from run_bound duplicate_areas
  indexed_bound index [] = omega arith
  indexed_bound index (r ∷ rs) = omega (arith, indexed_bound (suc index) rs)

  -- a run charges at most rules × (regions + cells), and the areas of its duplicate rules
  pub run_bound_lem : (rs : List Rule)
      → AtMost (length rs * (length s.regions + length s.cells) + duplicate_areas rs) (Run.run s rs).charges
  unfolding Run.run Run.ordered
  run_bound_lem rs =
      let is = sort_by Run.earlier (Run.indexed_from 0 rs) in
      at_most_more (omega (arith, sorted_bound (Run.indexed_from 0 rs), indexed_bound 0 rs))
      (run_from_bound is (replicate (length s.regions) Run.untouched))
