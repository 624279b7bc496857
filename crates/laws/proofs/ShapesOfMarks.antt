-- Each mark of a run is what its rule's marks can be: so no mark has the shape 4, a flat upper half, none has more than 5, and marks of
-- rules other than scales and bars have 0. Assumes nothing.
use mathlib.Core.Path.{◌≡◌, refl, sym, subst}
use mathlib.Core.Logic.{◌≢◌, ◌⊎◌, inl, inr, ⊎_elim, ∥∥₁_elim}
use mathlib.Core.HLevel.{¬_prop}
use mathlib.Core.Bool.{Bool, true, false, cond, true≢false}
use mathlib.Core.List.Memᴰ
use mathlib.Core.List.{List, [], ◌∷◌, Memᴰ}
use Prim.Native.Nat.{ℕ, suc, ◌≤◌, ◌<◌}
use native.Mathlib.Nat.{ℕ_set}
use native.Mathlib.Bridge.{le_prop}
use native.Mathlib.Omega.{arith}
use lib.ListN.{length, get_or, replicate}
use Rattle.charging.specs.Charge.{Charge}
use Rattle.model.specs.declared.CellCoordinate.{CellCoordinate}
use Rattle.model.specs.declared.CfRule.{CfRule}
use Rattle.model.specs.declared.Outcome.{Outcome}
use Rattle.model.specs.declared.Plan.{Plan}
use Rattle.model.specs.declared.Rule.{Rule}
use Rattle.model.specs.declared.Test.{Test}
use Rattle.model.specs.Sheet.{Sheet, in_range}
use Rattle.model.specs.Rule as Rule
use Rattle.model.specs.Rule.{has_shape}
use Rattle.model.specs.Run as Run
use Rattle.model.specs.Run.{Run, Mark, RegionState, IndexedRule, ordered}
use Rattle.model.specs.Job.{Job, sheet_of, rules_of, run_of}
use Rattle.laws.proofs.Sorting.{Each}
use Rattle.laws.proofs.Order.{ordered_entry}
use Rattle.laws.proofs.PaintsOfRules.{ShapeOf, PaintOf, Says, stopped, passed, unresolved, painted}
use Rattle.laws.proofs.PaintsOfRules.{Planned, deferred, skipped, tested, plan_painted}

-- ---- the marks of a run

-- a mark of a rule
pub record MarkOf (i : IndexedRule) (m : Mark) : Type 0 where
  pub rule : m.rule ≡ i.index
  pub paint : PaintOf i.rule.kind m.paint

-- the marks of a rule that is tested
module _ (s : Sheet) (i : IndexedRule) (t : Test)
    (says : (at : CellCoordinate) → in_range i.rule.range at ≡ true
    → Says (PaintOf i.rule.kind) (Rule.verdict s i.rule at t)) where
  region_says : (at : CellCoordinate) (state : RegionState) → Says (PaintOf i.rule.kind) (Run.outcome s i.rule t at state)
  unfolding Run.outcome
  region_says at state = by state.stopped (in_range i.rule.range at) refl
    where
      by : (stop inside : Bool) → in_range i.rule.range at ≡ inside
          → Says (PaintOf i.rule.kind) (cond stop Outcome.Stopped (cond inside (Rule.verdict s i.rule at t) Outcome.Passed))
      by true inside e = stopped
      by false true e = says at e
      by false false e = passed

  marks_from_lem : (region : ℕ) (ats : List CellCoordinate) (states : List RegionState) (m : Mark)
      → Memᴰ m (Run.marks_from i.index region (Run.outcomes s i.rule t ats states)) → MarkOf i m
  unfolding Run.outcomes Run.marks_from
  marks_from_lem region [] states m there = absurd (Memᴰ.not-nil there)
  marks_from_lem region (at ∷ ats) [] m there = absurd (Memᴰ.not-nil there)
  marks_from_lem region (at ∷ ats) (state ∷ states) m there =
      by (Run.outcome s i.rule t at state) (region_says at state) (marks_from_lem (suc region) ats states m) there
    where
      by : (o : Outcome) → Says (PaintOf i.rule.kind) o
          → (Memᴰ m (Run.marks_from i.index (suc region) (Run.outcomes s i.rule t ats states)) → MarkOf i m)
          → Memᴰ m (Run.marks_from i.index region (o ∷ Run.outcomes s i.rule t ats states)) → MarkOf i m
      by Outcome.Stopped stopped later there = later there
      by Outcome.Passed passed later there = later there
      by Outcome.Unresolved unresolved later there = later there
      by (Outcome.Painted p) (painted k) later there =
          ⊎_elim (λ e. subst (MarkOf i) (sym e) (record { rule = refl; paint = k })) later (Memᴰ.cases_cons there)

marks_of_either : (b : Bool) (x y : Run) (m : Mark) → Memᴰ m (cond b x y).marks → Memᴰ m x.marks ⊎ Memᴰ m y.marks
marks_of_either true x y m there = inl there
marks_of_either false x y m there = inr there

tested_marks : (i : IndexedRule) (charges : List Charge) (simplified : ℕ) (states : List RegionState) (os : List Outcome) (m : Mark)
    → Memᴰ m (Run.tested i charges simplified states os).marks → Memᴰ m (Run.marks_from i.index 0 os)
unfolding Run.tested Run.unmarked
tested_marks i charges simplified states os m there =
    ⊎_elim (λ here. absurd (Memᴰ.not-nil here)) (λ here. here) (marks_of_either (Run.is_unresolved os) _ _ m there)

module _ (s : Sheet) where
  step_marks : (i : IndexedRule) (states : List RegionState) (m : Mark) → Memᴰ m (Run.step s i states).marks → MarkOf i m
  unfolding Run.step Run.carried_out Run.unmarked
  step_marks i states m there = by (Rule.plan s i.rule) (plan_painted s i.rule) there
    where
      simple : ℕ
      simple = cond (Rule.is_simplified s i.rule) 1 0

      by : (p : Plan) → Planned s i.rule i.rule.kind p → Memᴰ m (Run.carried_out s i simple states p).marks → MarkOf i m
      by Plan.Deferred deferred there = absurd (Memᴰ.not-nil there)
      by Plan.Skipped skipped there = absurd (Memᴰ.not-nil there)
      by (Plan.Tested t) (tested says) there = marks_from_lem s i t says 0 s.regions states m (tested_marks i _ simple states _ m there)

  -- a mark of a run is a mark of one of its rules
  pub run_marks : (is : List IndexedRule) (states : List RegionState) (m : Mark) → Memᴰ m (Run.run_from s is states).marks
      → (i : IndexedRule) × Memᴰ i is × MarkOf i m
  unfolding Run.run_from Run.followed_by Run.unmarked
  run_marks [] states m there = absurd (Memᴰ.not-nil there)
  run_marks (i ∷ is) states m there =
      ⊎_elim (λ here. (i, Memᴰ.head refl, step_marks i states m here))
      (λ later. let (k, in_is, of) = run_marks is (Run.step s i states).states m later in (k, Memᴰ.tail in_is, of))
      (Memᴰ.append_cases (Run.step s i states).marks there)

-- ---- the marks of a job

-- the entry of a mark's rule
mark_entry : (j : Job) (m : Mark) → Memᴰ m (run_of j).marks → (i : IndexedRule) × Memᴰ i (ordered (rules_of j)) × MarkOf i m
unfolding run_of Run.run
mark_entry j m there = run_marks (sheet_of j) (ordered (rules_of j)) (replicate (length (sheet_of j).regions) Run.untouched) m there

-- each mark has a rule of the job, and a shape that its rule can have
pub mark_shape : (j : Job) (m : Mark) → Memᴰ m (run_of j).marks
    → (m.rule < length (rules_of j)) × ((d : Rule) → ShapeOf (get_or (rules_of j) m.rule d).kind m.paint.shape)
mark_shape j m there =
    let (i, listed, of) = mark_entry j m there in
    let (within, same) = ordered_entry (rules_of j) i listed in
    (omega (arith, of.rule), λ d. rw (of.rule, same d) of.paint.shape)

-- what all these shapes have in common
any_shape : (kind : CfRule) (n : ℕ) → ShapeOf kind n → (n ≤ 5) × (n ≢ 4) × (has_shape kind ≡ false → n ≡ 0)
unfolding has_shape
any_shape (CfRule.CellIs op first second fill) n h = (omega arith, omega arith, λ e. h)
any_shape (CfRule.ColorScale2 min max) n h = (omega arith, omega arith, λ e. absurd (true≢false e))
any_shape (CfRule.ColorScale3 min mid max) n h = (h.0, h.1, λ e. absurd (true≢false e))
any_shape (CfRule.DataBar color) n h = (omega arith, omega arith, λ e. absurd (true≢false e))
any_shape (CfRule.TopBottom number bottom percent fill) n h = (omega arith, omega arith, λ e. h)
any_shape (CfRule.AboveAverage below fill) n h = (omega arith, omega arith, λ e. h)
any_shape (CfRule.DuplicateValues unique fill) n h = (omega arith, omega arith, λ e. h)
any_shape (CfRule.Expression op left right fill) n h = (omega arith, omega arith, λ e. h)

-- no mark has a flat upper half
pub never_four : (j : Job) → Each (λ m. m.paint.shape ≢ 4) (run_of j).marks
never_four j m there =
    ∥∥₁_elim there ¬_prop (λ d. let (i, listed, of) = mark_entry j m d in (any_shape i.rule.kind m.paint.shape of.paint.shape).1)

pub at_most_five : (j : Job) → Each (λ m. m.paint.shape ≤ 5) (run_of j).marks
at_most_five j m there =
    ∥∥₁_elim there le_prop (λ d.
    let (i, listed, of) = mark_entry j m d in
    (any_shape i.rule.kind m.paint.shape of.paint.shape).0)

-- marks of rules other than scales and bars have the shape 0
pub others_nought : (j : Job) (d : Rule)
    → Each (λ m. has_shape (get_or (rules_of j) m.rule d).kind ≡ false → m.paint.shape ≡ 0) (run_of j).marks
others_nought j d m there e =
    ∥∥₁_elim there (ℕ_set m.paint.shape 0) (λ k.
    (any_shape (get_or (rules_of j) m.rule d).kind m.paint.shape ((mark_shape j m k).1 d)).2 e)
