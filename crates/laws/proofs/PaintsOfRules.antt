-- What a rule's marks can be: they have a bar exactly if the rule is one, and a shape of 0, 1 or 2 for a scale of two colours and a bar,
-- of 0, 1, 2, 3 or 5 for a scale of three colours, of 0 for every other rule. 4, a flat upper half, is none of them: a region's number is
-- one of the values, so it is at most the greatest, and one above the midpoint leaves the midpoint below the greatest. Assumes nothing.
use Rattle.std.specs.Prelude.{Some, None}
use mathlib.Core.Path.{◌≡◌, refl, sym, ap, ◌∙◌, subst}
use mathlib.Core.Logic.{◌≢◌}
use mathlib.Core.Bool.{Bool, true, false, cond, not, ◌&&◌, ◌||◌, true≢false, false≢true}
use mathlib.Core.List.{List, [], ◌∷◌, Mem, mem-cons_self, mem-cons_of_mem}
use mathlib.Core.Option.{some}
use Prim.Native.Nat.{ℕ, zero, suc, ◌+◌, ◌≤◌}
use native.Mathlib.Omega.{arith}
use lib.Dec.{leb, eqb}
use lib.Ieee.{Float, nan, inf, fin, lt, eq, le}
use borrow.Author.Tests.{eqb-true, not-false}
use Rattle.model.specs.declared.CellCoordinate.{CellCoordinate}
use Rattle.model.specs.declared.CfRule.{CfRule}
use Rattle.model.specs.declared.Normalized.{Normalized}
use Rattle.model.specs.declared.Outcome.{Outcome}
use Rattle.model.specs.declared.Paint.{Paint}
use Rattle.model.specs.declared.Plan.{Plan}
use Rattle.model.specs.declared.Range.{Range}
use Rattle.model.specs.Options.{Reading}
use Rattle.model.specs.declared.Rgb.{Rgb}
use Rattle.model.specs.declared.Rule.{Rule}
use Rattle.model.specs.declared.Shape.{Shape}
use Rattle.model.specs.declared.Test.{Test}
use Rattle.model.specs.Sheet.{Sheet, CellAt, same_coordinate, cell_at, in_range, upright, within_grid}
use Rattle.model.specs.References.{unread}
use Rattle.model.specs.Comparison.{uses_second}
use Rattle.model.specs.Readings.{finite, numeric_of, numeric_at, numeric_cell_value}
use Rattle.model.specs.Ratio.{normalized, shape_number}
use Rattle.model.specs.Values.{least, greatest, sorted, midpoint, average}
use Rattle.model.specs.Rule as Rule
use Rattle.model.specs.Rule.{with_number, numbers, cells_in, values, is_bar}
use Rattle.model.specs.Run.{has_bar}
use Rattle.laws.proofs.Sorting.{Each}
use Rattle.laws.proofs.FloatOrder.{Finite, lt_order, le_not_less}
use Rattle.laws.proofs.Values.{greatest_member, greatest_greatest, values_finite}
use Rattle.laws.proofs.Shapes.{flat_exactly}

-- ---- a region's number is one of the values

same_in_range : (r : Range) (a b : CellCoordinate) → same_coordinate a b ≡ true → in_range r a ≡ in_range r b
unfolding same_coordinate
same_in_range r a b e = both (eqb a.row b.row) (eqb a.col b.col) refl refl e
  where
    both : (p q : Bool) → eqb a.row b.row ≡ p → eqb a.col b.col ≡ q → p && q ≡ true → in_range r a ≡ in_range r b
    both true true p q e = λ i. in_range r (record { row = eqb-true a.row b.row p i; col = eqb-true a.col b.col q i })
    both true false p q e = absurd (false≢true e)
    both false t p q e = absurd (false≢true e)

number_first : (x : Float) (xs : List Float) (c : Reading) → c ≡ Some x → Mem x (with_number c xs)
number_first x xs c e = subst (λ c. Mem x (with_number c xs)) (sym e) mem-cons_self

number_later : (x : Float) (xs : List Float) (c : Reading) → Mem x xs → Mem x (with_number c xs)
number_later x xs (Some y) m = mem-cons_of_mem y m
number_later x xs None m = m

-- a number in range is one of the values
pub number_member : (r : Range) (at : CellCoordinate) (x : Float) → in_range r at ≡ true → (cells : List CellAt)
    → numeric_at cells at ≡ Some x → Mem x (numbers (cells_in r cells))
unfolding numeric_at cell_at cells_in numbers
number_member r at x h [] e = absurd (let no : ◌≡◌ {A = ℕ} 0 1 = cc in omega arith)
number_member r at x h (c ∷ cs) e = here (same_coordinate c.at at) refl e (number_member r at x h cs)
  where
    later : (t : Bool) → Mem x (numbers (cells_in r cs)) → Mem x (numbers (cond t (c ∷ cells_in r cs) (cells_in r cs)))
    later true m = number_later x (numbers (cells_in r cs)) (numeric_cell_value c.cell) m
    later false m = m

    here : (t : Bool) → same_coordinate c.at at ≡ t → numeric_of (cond t (some c.cell) (cell_at cs at)) ≡ Some x
        → (numeric_of (cell_at cs at) ≡ Some x → Mem x (numbers (cells_in r cs)))
        → Mem x (numbers (cond (in_range r c.at) (c ∷ cells_in r cs) (cells_in r cs)))
    here true same e below =
        rw (same_in_range r c.at at same ∙ h) (number_first x (numbers (cells_in r cs)) (numeric_cell_value c.cell) e)
    here false same e below = later (in_range r c.at) (below e)

-- ---- the upper half is not flat

-- an end that is not finite is above all numbers, below all, or neither
beyond : (x y end : Float) → Finite x → Finite y → finite end ≡ false → le x end ≡ le y end
unfolding finite le lt eq
beyond nan y end p q h = absurd (false≢true p)
beyond (inf s) y end p q h = absurd (false≢true p)
beyond (fin s m e) nan end p q h = absurd (false≢true q)
beyond (fin s m e) (inf t) end p q h = absurd (false≢true q)
beyond (fin s m e) (fin t n d) nan p q h = refl
beyond (fin s m e) (fin t n d) (inf u) p q h = refl
beyond (fin s m e) (fin t n d) (fin u k c) p q h = absurd (true≢false h)

-- a number above the midpoint and at most the greatest leaves the midpoint below the greatest, whatever float the midpoint is
above_middle : (x middle high : Float) → Finite x → Finite high → lt high x ≡ false → le x middle ≡ false → le high middle ≡ false
above_middle x middle high p q h k = ends (finite middle) refl
  where
    ends : (t : Bool) → finite middle ≡ t → le high middle ≡ false
    ends false e = beyond high x middle q p e ∙ k
    ends true e = decided (lt middle high) refl
      where
        decided : (t : Bool) → lt middle high ≡ t → le high middle ≡ false
        decided true l = le_not_less high middle q e ∙ ap not l
        decided false l =
            let less : lt middle x ≡ true = not-false (lt middle x) (sym (le_not_less x middle p e) ∙ k) in
            absurd (false≢true (sym (lt_order.following x high middle p q e h l) ∙ less))

-- ---- what a rule says

-- the shapes that a mark of a rule can have
abbrev pub ShapeOf : CfRule → ℕ → Type 0
ShapeOf (CfRule.CellIs op first second fill) n = n ≡ 0
ShapeOf (CfRule.ColorScale2 min max) n = n ≤ 2
ShapeOf (CfRule.ColorScale3 min mid max) n = (n ≤ 5) × (n ≢ 4)
ShapeOf (CfRule.DataBar color) n = n ≤ 2
ShapeOf (CfRule.TopBottom number bottom percent fill) n = n ≡ 0
ShapeOf (CfRule.AboveAverage below fill) n = n ≡ 0
ShapeOf (CfRule.DuplicateValues unique fill) n = n ≡ 0
ShapeOf (CfRule.Expression op left right fill) n = n ≡ 0

-- what a mark of a rule can be
pub record PaintOf (kind : CfRule) (p : Paint) : Type 0 where
  pub bar : has_bar p ≡ is_bar kind
  pub shape : ShapeOf kind p.shape

-- if it is a mark, it has P
pub data Says (P : Paint → Type 0) : Outcome → Type 0 where
  stopped : Says P Outcome.Stopped
  passed : Says P Outcome.Passed
  unresolved : Says P Outcome.Unresolved
  painted : {p : Paint} → P p → Says P (Outcome.Painted p)

-- a fill, which has no bar
module _ {kind : CfRule} (fills : is_bar kind ≡ false) where
  says_filled : (imported : Bool) (shape : ℕ) (fill : Rgb) → ShapeOf kind shape → Says (PaintOf kind) (Rule.filled imported shape fill)
  unfolding Rule.filled has_bar
  says_filled true shape fill h = painted (record { bar = sym fills; shape = h })
  says_filled false shape fill h = painted (record { bar = sym fills; shape = h })

  says_scaled : (imported : Bool) (more : ℕ) (start end : Rgb) (n : Normalized) → ShapeOf kind (more + shape_number n.shape)
      → Says (PaintOf kind) (Rule.scaled imported more start end n)
  unfolding Rule.scaled
  says_scaled imported more start end n h = says_filled imported (more + shape_number n.shape) _ h

  says_filled_if : (met imported : Bool) (fill : Rgb) → ShapeOf kind 0 → Says (PaintOf kind) (Rule.filled_if met imported fill)
  unfolding Rule.filled_if
  says_filled_if true imported fill h = says_filled imported 0 fill h
  says_filled_if false imported fill h = passed

module _ {P : Paint → Type 0} where
  says_on_value : (x : Reading) (say : Float → Outcome) → ((v : Float) → x ≡ Some v → Says P (say v))
      → Says P (Rule.on_value x say)
  unfolding Rule.on_value
  says_on_value (Some v) say h = h v refl
  says_on_value None say h = passed

  says_on_operand : (x : Reading) (say : Float → Outcome) → ((v : Float) → Says P (say v)) → Says P (Rule.on_operand x say)
  unfolding Rule.on_operand
  says_on_operand (Some v) say h = h v
  says_on_operand None say h = unresolved

  says_on_second : (used : Bool) (y : Reading) (say : Reading → Outcome) → ((z : Reading) → Says P (say z))
      → Says P (Rule.on_second used y say)
  unfolding Rule.on_second
  says_on_second true (Some v) say h = h (Some v)
  says_on_second true None say h = unresolved
  says_on_second false y say h = h None

-- ---- the marks of each kind of rule

shape_most : (x : Shape) → shape_number x ≤ 2
unfolding shape_number
shape_most Shape.Plain = omega arith
shape_most Shape.Flat = omega arith
shape_most Shape.TooWide = omega arith

-- kinds 3 and 4
pub bar_kind : (imported : Bool) → leb 3 (cond imported 4 3) ≡ true
bar_kind true = refl
bar_kind false = refl

-- of the upper half
upper_shape : (x : Shape) → x ≢ Shape.Flat → (3 + shape_number x ≤ 5) × (3 + shape_number x ≢ 4)
unfolding shape_number
upper_shape Shape.Plain h = omega arith
upper_shape Shape.Flat h = absurd (h refl)
upper_shape Shape.TooWide h = omega arith

-- a number of a scale of three colours, in the lower half or in an upper half that is not flat
module _ (imported : Bool) (min mid max : Rgb) (x low middle high : Float) (rises : le x middle ≡ false → le high middle ≡ false) where
  says_halves : Says (PaintOf (CfRule.ColorScale3 min mid max)) (cond (le x middle)
      (Rule.scaled imported 0 min mid (normalized x low middle)) (Rule.scaled imported 3 mid max (normalized x middle high)))
  unfolding is_bar
  says_halves = half (le x middle) refl
    where
      half : (t : Bool) → le x middle ≡ t
          → Says (PaintOf (CfRule.ColorScale3 min mid max)) (cond t (Rule.scaled imported 0 min mid (normalized x low middle))
          (Rule.scaled imported 3 mid max (normalized x middle high)))
      half true k =
          let n = normalized x low middle in
          says_scaled refl imported 0 min mid n (omega (arith, shape_most n.shape))
      half false k =
          let n = normalized x middle high in
          says_scaled refl imported 3 mid max n
          (upper_shape n.shape (λ flat. false≢true (sym (rises k) ∙ (flat_exactly x middle high).0 flat)))

-- what a rule with this plan says of each region in range
pub data Planned (s : Sheet) (r : Rule) (kind : CfRule) : Plan → Type 0 where
  deferred : Planned s r kind Plan.Deferred
  skipped : Planned s r kind Plan.Skipped
  tested : {t : Test} → ((at : CellCoordinate) → in_range r.range at ≡ true → Says (PaintOf kind) (Rule.verdict s r at t))
      → Planned s r kind (Plan.Tested t)

module _ (s : Sheet) (r : Rule) where
  planned_if : {kind : CfRule} (b : Bool) {p q : Plan} → Planned s r kind p → Planned s r kind q → Planned s r kind (cond b p q)
  planned_if true h k = h
  planned_if false h k = k

  planned_scale2 : (min max : Rgb) (xs : List Float) → Planned s r (CfRule.ColorScale2 min max) (Rule.scale2 min max xs)
  unfolding Rule.scale2 Rule.verdict is_bar
  planned_scale2 min max [] = skipped
  planned_scale2 min max (x ∷ xs) =
      tested (λ at h. says_on_value _ _ (λ v e.
      let n = normalized v (least x xs) (greatest x xs) in
      says_scaled refl r.imported 0 min max n (omega (arith, shape_most n.shape))))

  planned_bar : (color : Rgb) (xs : List Float) → Planned s r (CfRule.DataBar color) (Rule.bar color xs)
  unfolding Rule.bar Rule.barred Rule.verdict is_bar has_bar
  planned_bar color [] = skipped
  planned_bar color (x ∷ xs) =
      tested (λ at h. says_on_value _ _ (λ v e. painted (record { bar = bar_kind r.imported; shape = shape_most _ })))

  planned_scale3 : (min mid max : Rgb) (xs : List Float) → values s r.range ≡ xs
      → Planned s r (CfRule.ColorScale3 min mid max) (Rule.scale3 min mid max xs)
  unfolding Rule.scale3 Rule.verdict values
  planned_scale3 min mid max [] same = skipped
  planned_scale3 min mid max (x ∷ xs) same =
      let middle = midpoint (sorted (x ∷ xs)) in
      let high = greatest x xs in
      let all : Each Finite (x ∷ xs) = subst (Each Finite) same (values_finite s r.range) in
      tested (λ at h. says_on_value _ _ (λ v e.
      let m : Mem v (x ∷ xs) = subst (Mem v) same (number_member r.range at v h s.cells e) in
      says_halves r.imported min mid max v (least x xs) middle high
      (above_middle v middle high (all v m) (all high (greatest_member x xs)) (greatest_greatest x xs all v m))))

  planned_rank : (number : ℕ) (bottom percent : Bool) (fill : Rgb) (xs : List Float)
      → Planned s r (CfRule.TopBottom number bottom percent fill) (Rule.rank number bottom percent fill xs)
  unfolding Rule.rank Rule.verdict is_bar
  planned_rank number bottom percent fill [] = skipped
  planned_rank zero bottom percent fill (x ∷ xs) = skipped
  planned_rank (suc n) bottom percent fill (x ∷ xs) = tested (λ at h. says_on_value _ _ (λ v e. says_filled_if refl _ _ fill refl))

  planned_mean : (below : Bool) (fill : Rgb) (xs : List Float) → Planned s r (CfRule.AboveAverage below fill) (Rule.mean below fill xs)
  unfolding Rule.mean Rule.against Rule.verdict is_bar
  planned_mean below fill [] = skipped
  planned_mean below fill (x ∷ xs) = by (average (x ∷ xs))
    where
      by : (mean : Reading) → Planned s r (CfRule.AboveAverage below fill) (Rule.against below fill mean)
      by (Some mean) = tested (λ at h. says_on_value _ _ (λ v e. says_filled_if refl _ _ fill refl))
      by None = deferred

  planned : (kind : CfRule) → Planned s r kind (Rule.plan_of s r.range kind)
  unfolding Rule.plan_of Rule.verdict is_bar
  planned (CfRule.CellIs op first second fill) =
      planned_if (unread first || (uses_second op && unread second)) deferred (tested {t = Test.CellIs op first second fill} (λ at h.
      says_on_value _ _ (λ x e. says_on_operand _ _ (λ a. says_on_second _ _ _ (λ b. says_filled_if refl _ _ fill refl)))))
  planned (CfRule.ColorScale2 min max) = planned_scale2 min max (values s r.range)
  planned (CfRule.ColorScale3 min mid max) = planned_scale3 min mid max (values s r.range) refl
  planned (CfRule.DataBar color) = planned_bar color (values s r.range)
  planned (CfRule.TopBottom number bottom percent fill) = planned_rank number bottom percent fill (values s r.range)
  planned (CfRule.AboveAverage below fill) = planned_mean below fill (values s r.range)
  planned (CfRule.DuplicateValues unique fill) =
      planned_if (within_grid r.range) (planned_if (Rule.covered s r.range) (tested {t = Test.DuplicateValues unique fill} (λ at h.
      says_filled_if refl _ _ fill refl)) deferred) deferred
  planned (CfRule.Expression op left right fill) =
      planned_if (unread left || unread right) deferred (tested {t = Test.Expression op left right fill} (λ at h.
      says_on_operand _ _ (λ a. says_on_operand _ _ (λ b. says_filled_if refl _ _ fill refl))))

-- a mark of a rule is what the rule's marks can be
pub plan_painted : (s : Sheet) (r : Rule) → Planned s r r.kind (Rule.plan s r)
unfolding Rule.plan
plan_painted s r = planned_if s r (upright r.range) (planned s r r.kind) deferred
