-- A rule's plan is worked out apart from its sheet: from the values of its range, from its operands, or, of a duplicate rule, from where
-- its range lies. And the rules that count as simplified are those whose regions are tested for a bar. Assumes nothing.
use Rattle.std.specs.Prelude.{Some, None}
use Prim.Native.Nat.{ℕ, zero, suc}
use mathlib.Core.Path.{◌≡◌, refl, ◌∙◌}
use mathlib.Core.Bool.{Bool, true, false, cond, ◌&&◌, ◌||◌, false≢true, and-false}
use mathlib.Core.List.{List, [], ◌∷◌}
use native.Mathlib.Omega.{arith}
use lib.Dec.{leb, ltb}
use lib.ListN.{length}
use lib.Ieee.{Float}
use borrow.Author.Tests.{leb-true, le-leb, lt-ltb}
use Rattle.model.specs.declared.CellCoordinate.{CellCoordinate}
use Rattle.model.specs.Options.{Reading}
use Rattle.model.specs.declared.Rgb.{Rgb}
use Rattle.model.specs.declared.Range.{Range}
use Rattle.model.specs.declared.CfRule.{CfRule}
use Rattle.model.specs.declared.Rule.{Rule}
use Rattle.model.specs.declared.Test.{Test}
use Rattle.model.specs.declared.Plan.{Plan}
use Rattle.model.specs.Sheet.{Sheet, CellAt, upright, within_grid, in_range}
use Rattle.model.specs.References.{unread}
use Rattle.model.specs.Comparison.{uses_second}
use Rattle.model.specs.Values.{average}
use Rattle.model.specs.Rule.{values, numbers, cells_in, covered, scale2, scale3, bar, rank, against, mean, plan_of, plan, is_bar, is_simplified}
use Rattle.plans.specs.Plans.{takes_values, plan_of_values, takes_operands, plan_of_operands, is_bar_test, tests_bar}

-- ---- the plan

module _ (s : Sheet) (r : Rule) where
  pub plan_inverted : upright r.range ≡ false → plan s r ≡ Plan.Deferred
  unfolding plan
  plan_inverted h = rw h

  pub plan_upright : upright r.range ≡ true → plan s r ≡ plan_of s r.range r.kind
  unfolding plan
  plan_upright h = rw h

module _ (s : Sheet) (range : Range) where
  plan_of_values_is : (k : CfRule) → takes_values k ≡ true → plan_of s range k ≡ plan_of_values k (values s range)
  unfolding takes_values plan_of plan_of_values
  plan_of_values_is (CfRule.CellIs op first second fill) h = absurd (false≢true h)
  plan_of_values_is (CfRule.ColorScale2 min max) h = refl
  plan_of_values_is (CfRule.ColorScale3 min mid max) h = refl
  plan_of_values_is (CfRule.DataBar color) h = refl
  plan_of_values_is (CfRule.TopBottom number bottom percent fill) h = refl
  plan_of_values_is (CfRule.AboveAverage below fill) h = refl
  plan_of_values_is (CfRule.DuplicateValues unique fill) h = absurd (false≢true h)
  plan_of_values_is (CfRule.Expression op left right fill) h = absurd (false≢true h)

  plan_of_operands_is : (k : CfRule) → takes_operands k ≡ true → plan_of s range k ≡ plan_of_operands k
  unfolding takes_operands plan_of plan_of_operands
  plan_of_operands_is (CfRule.CellIs op first second fill) h = refl
  plan_of_operands_is (CfRule.ColorScale2 min max) h = absurd (false≢true h)
  plan_of_operands_is (CfRule.ColorScale3 min mid max) h = absurd (false≢true h)
  plan_of_operands_is (CfRule.DataBar color) h = absurd (false≢true h)
  plan_of_operands_is (CfRule.TopBottom number bottom percent fill) h = absurd (false≢true h)
  plan_of_operands_is (CfRule.AboveAverage below fill) h = absurd (false≢true h)
  plan_of_operands_is (CfRule.DuplicateValues unique fill) h = absurd (false≢true h)
  plan_of_operands_is (CfRule.Expression op left right fill) h = refl

module _ (s : Sheet) (r : Rule) where
  pub plan_of_values_lem : takes_values r.kind ≡ true → upright r.range ≡ true → plan s r ≡ plan_of_values r.kind (values s r.range)
  plan_of_values_lem h u = plan_upright s r u ∙ plan_of_values_is s r.range r.kind h

  pub plan_of_operands_lem : takes_operands r.kind ≡ true → upright r.range ≡ true → plan s r ≡ plan_of_operands r.kind
  plan_of_operands_lem h u = plan_upright s r u ∙ plan_of_operands_is s r.range r.kind h

-- a duplicate rule, by where its range lies and whether each coordinate there has a key
module _ (s : Sheet) (r : Rule) (unique : Bool) (fill : Rgb) (k : r.kind ≡ CfRule.DuplicateValues unique fill)
    (u : upright r.range ≡ true) where
  pub plan_of_duplicates : within_grid r.range ≡ true → covered s r.range ≡ true
      → plan s r ≡ Plan.Tested (Test.DuplicateValues unique fill)
  unfolding plan_of
  plan_of_duplicates g h = plan_upright s r u ∙ rw (k, g, h)

  pub plan_of_duplicates_uncovered : within_grid r.range ≡ true → covered s r.range ≡ false → plan s r ≡ Plan.Deferred
  unfolding plan_of
  plan_of_duplicates_uncovered g h = plan_upright s r u ∙ rw (k, g, h)

  pub plan_of_duplicates_beyond : within_grid r.range ≡ false → plan s r ≡ Plan.Deferred
  unfolding plan_of
  plan_of_duplicates_beyond g = plan_upright s r u ∙ rw (k, g)

-- ---- an inverted range has no values

leb_trans : (a b c : ℕ) → leb a b ≡ true → leb b c ≡ true → leb a c ≡ true
leb_trans a b c p q = le-leb a c (omega (arith, leb-true a b p, leb-true b c q))

in_inverted : (r : Range) (at : CellCoordinate) → upright r ≡ false → in_range r at ≡ false
unfolding in_range upright
in_inverted r at u =
    go (leb r.top at.row) (leb at.row r.bottom) (leb r.left at.col) (leb at.col r.right) refl refl refl refl
  where
    go : (a b c d : Bool) → leb r.top at.row ≡ a → leb at.row r.bottom ≡ b → leb r.left at.col ≡ c
        → leb at.col r.right ≡ d → a && b && c && d ≡ false
    go false b c d p q v w = refl
    go true false c d p q v w = refl
    go true true false d p q v w = refl
    go true true true false p q v w = refl
    go true true true true p q v w = rw (leb_trans _ _ _ p q, leb_trans _ _ _ v w) at u

cells_inverted : (r : Range) (cs : List CellAt) → upright r ≡ false → cells_in r cs ≡ []
unfolding cells_in
cells_inverted r [] u = refl
cells_inverted r (c ∷ cs) u = rw (in_inverted r c.at u) (cells_inverted r cs u)

values_inverted : (s : Sheet) (r : Range) → upright r ≡ false → values s r ≡ []
unfolding values numbers
values_inverted s r u = rw (cells_inverted r s.cells u)

-- ---- which rules count as simplified

against_no_bar : (below : Bool) (fill : Rgb) (m : Reading) → false ≡ tests_bar (against below fill m)
unfolding against tests_bar is_bar_test
against_no_bar below fill (Some x) = refl
against_no_bar below fill None = refl

values_bar : (k : CfRule) (xs : List Float) → is_bar k && ltb 0 (length xs) ≡ tests_bar (plan_of_values k xs)
unfolding is_bar tests_bar is_bar_test plan_of_values scale2 scale3 bar rank mean
values_bar (CfRule.CellIs op first second fill) xs = refl
values_bar (CfRule.ColorScale2 min max) [] = refl
values_bar (CfRule.ColorScale2 min max) (x ∷ xs) = refl
values_bar (CfRule.ColorScale3 min mid max) [] = refl
values_bar (CfRule.ColorScale3 min mid max) (x ∷ xs) = refl
values_bar (CfRule.DataBar color) [] = refl
values_bar (CfRule.DataBar color) (x ∷ xs) = lt-ltb 0 (length (x ∷ xs)) (omega arith)
values_bar (CfRule.TopBottom number bottom percent fill) [] = refl
values_bar (CfRule.TopBottom zero bottom percent fill) (x ∷ xs) = refl
values_bar (CfRule.TopBottom (suc n) bottom percent fill) (x ∷ xs) = refl
values_bar (CfRule.AboveAverage below fill) [] = refl
values_bar (CfRule.AboveAverage below fill) (x ∷ xs) = against_no_bar below fill (average (x ∷ xs))
values_bar (CfRule.DuplicateValues unique fill) xs = refl
values_bar (CfRule.Expression op left right fill) xs = refl

cond_no_bar : (b : Bool) (p q : Plan) → false ≡ tests_bar p → false ≡ tests_bar q → false ≡ tests_bar (cond b p q)
cond_no_bar true p q h k = h
cond_no_bar false p q h k = k

module _ (s : Sheet) (r : Range) where
  plan_of_bar : (k : CfRule) → is_bar k && ltb 0 (length (values s r)) ≡ tests_bar (plan_of s r k)
  unfolding is_bar tests_bar is_bar_test plan_of plan_of_values
  plan_of_bar (CfRule.CellIs op first second fill) =
      let test = Plan.Tested (Test.CellIs op first second fill) in
      cond_no_bar (unread first || (uses_second op && unread second)) Plan.Deferred test refl refl
  plan_of_bar (CfRule.ColorScale2 min max) = values_bar (CfRule.ColorScale2 min max) (values s r)
  plan_of_bar (CfRule.ColorScale3 min mid max) = values_bar (CfRule.ColorScale3 min mid max) (values s r)
  plan_of_bar (CfRule.DataBar color) = values_bar (CfRule.DataBar color) (values s r)
  plan_of_bar (CfRule.TopBottom number bottom percent fill) = values_bar (CfRule.TopBottom number bottom percent fill) (values s r)
  plan_of_bar (CfRule.AboveAverage below fill) = values_bar (CfRule.AboveAverage below fill) (values s r)
  plan_of_bar (CfRule.DuplicateValues unique fill) =
      let test = Plan.Tested (Test.DuplicateValues unique fill) in
      cond_no_bar (within_grid r) (cond (covered s r) test Plan.Deferred) Plan.Deferred
      (cond_no_bar (covered s r) test Plan.Deferred refl refl) refl
  plan_of_bar (CfRule.Expression op left right fill) =
      let test = Plan.Tested (Test.Expression op left right fill) in
      cond_no_bar (unread left || unread right) Plan.Deferred test refl refl

module _ (s : Sheet) (r : Rule) where
  pub simplified_inverted : upright r.range ≡ false → is_simplified s r ≡ false
  unfolding is_simplified
  simplified_inverted u = rw (values_inverted s r.range u) (and-false (is_bar r.kind))

  -- a rule is simplified exactly if its regions are tested for a bar
  pub simplified_tests_bar : is_simplified s r ≡ tests_bar (plan s r)
  unfolding is_simplified tests_bar
  simplified_tests_bar = go (upright r.range) refl
    where
      go : (b : Bool) → upright r.range ≡ b → is_simplified s r ≡ tests_bar (plan s r)
      go true u = rw (plan_upright s r u) (plan_of_bar s r.range r.kind)
      go false u = rw (plan_inverted s r u) (simplified_inverted u)
