-- Which rules draw a bar at a region: a bar rule whose upright range holds a coordinate with a number draws one there, of the number's
-- ratio among the values of its range; no other rule does. Assumes nothing.
use Rattle.std.specs.Prelude.{Some, None}
use Prim.Native.Nat.{ℕ, suc}
use mathlib.Core.Path.{◌≡◌, refl, sym, ap, ◌∙◌, subst}
use mathlib.Core.Logic.{◌⊎◌, inl, inr}
use mathlib.Core.Bool.{Bool, true, false, cond, ◌&&◌, true≢false, false≢true}
use mathlib.Core.List.{List, [], ◌∷◌, Mem, not-mem-nil}
use lib.Dec.{eqb, eqb-suc-zero}
use lib.Ieee.{Float}
use Rattle.model.specs.declared.CellCoordinate.{CellCoordinate}
use Rattle.model.specs.declared.CfRule.{CfRule}
use Rattle.model.specs.declared.Outcome.{Outcome}
use Rattle.model.specs.declared.Paint.{Paint}
use Rattle.model.specs.declared.Plan.{Plan}
use Rattle.model.specs.Options.{Reading}
use Rattle.model.specs.declared.Rgb.{Rgb}
use Rattle.model.specs.declared.Rule.{Rule}
use Rattle.model.specs.declared.Test.{Test}
use Rattle.model.specs.Sheet.{Sheet, in_range, upright}
use Rattle.model.specs.Readings.{numeric_at}
use Rattle.model.specs.Ratio.{normalized, ratio}
use Rattle.model.specs.Values.{least, greatest}
use Rattle.model.specs.Rule as Rule
use Rattle.model.specs.Rule.{values, is_bar, verdict}
use Rattle.model.specs.Run as Run
use Rattle.model.specs.Run.{RegionState, IndexedRule, has_bar}
use Rattle.laws.proofs.Covered.{and_true}
use Rattle.laws.proofs.PaintsOfRules.{number_member, Says, stopped, passed, unresolved, painted, PaintOf}
use Rattle.laws.proofs.PaintsOfRules.{Planned, deferred, skipped, tested, plan_painted, bar_kind}
use Rattle.barlaws.specs.Origin.{BarOver}

-- ---- which rules

-- the test of a bar rule whose upright range holds the coordinate
abbrev pub draws : CellCoordinate → IndexedRule → Bool
draws at i = is_bar i.rule.kind && (upright i.rule.range && in_range i.rule.range at)

bar_colour : (kind : CfRule) → is_bar kind ≡ true → (colour : Rgb) × (kind ≡ CfRule.DataBar colour)
unfolding is_bar
bar_colour (CfRule.CellIs op first second fill) e = absurd (false≢true e)
bar_colour (CfRule.ColorScale2 min max) e = absurd (false≢true e)
bar_colour (CfRule.ColorScale3 min mid max) e = absurd (false≢true e)
bar_colour (CfRule.DataBar color) e = (color, refl)
bar_colour (CfRule.TopBottom number bottom percent fill) e = absurd (false≢true e)
bar_colour (CfRule.AboveAverage below fill) e = absurd (false≢true e)
bar_colour (CfRule.DuplicateValues unique fill) e = absurd (false≢true e)
bar_colour (CfRule.Expression op left right fill) e = absurd (false≢true e)

pub draws_over : (at : CellCoordinate) (i : IndexedRule) → draws at i ≡ true → BarOver at i
draws_over at i e =
    let (bar, rest) = (and_true (is_bar i.rule.kind) _).0 e in
    let (up, holds) = (and_true (upright i.rule.range) _).0 rest in
    let (colour, is) = bar_colour i.rule.kind bar in
    record { colour = colour; bar = is; is_upright = up; holds = holds }

pub over_draws : (at : CellCoordinate) (i : IndexedRule) → BarOver at i → draws at i ≡ true
unfolding is_bar
over_draws at i o = rw (o.bar, o.is_upright, o.holds)

-- ---- no bar

-- if it is a mark, it has no bar
abbrev pub NoBar : Outcome → Type 0
NoBar Outcome.Stopped = Unit {0}
NoBar Outcome.Passed = Unit {0}
NoBar Outcome.Unresolved = Unit {0}
NoBar (Outcome.Painted p) = has_bar p ≡ false

-- what a plan says of the coordinate has no bar
abbrev pub Barless : Sheet → Rule → CellCoordinate → Plan → Type 0
Barless s r at Plan.Deferred = Unit {0}
Barless s r at Plan.Skipped = Unit {0}
Barless s r at (Plan.Tested t) = NoBar (cond (in_range r.range at) (verdict s r at t) Outcome.Passed)

says_no_bar : (kind : CfRule) (o : Outcome) → is_bar kind ≡ false → Says (PaintOf kind) o → NoBar o
says_no_bar kind Outcome.Stopped e stopped = tt
says_no_bar kind Outcome.Passed e passed = tt
says_no_bar kind Outcome.Unresolved e unresolved = tt
says_no_bar kind (Outcome.Painted p) e (painted h) = h.bar ∙ e

module _ (s : Sheet) (r : Rule) (at : CellCoordinate) where
  -- rules other than bars
  fills_barless : is_bar r.kind ≡ false → Barless s r at (Rule.plan s r)
  fills_barless e = by (Rule.plan s r) (plan_painted s r)
    where
      inside : (t : Test) → ((at : CellCoordinate) → in_range r.range at ≡ true → Says (PaintOf r.kind) (verdict s r at t))
          → (b : Bool) → in_range r.range at ≡ b → NoBar (cond b (verdict s r at t) Outcome.Passed)
      inside t says true h = says_no_bar r.kind (verdict s r at t) e (says at h)
      inside t says false h = tt

      by : (p : Plan) → Planned s r r.kind p → Barless s r at p
      by Plan.Deferred deferred = tt
      by Plan.Skipped skipped = tt
      by (Plan.Tested t) (tested says) = inside t says (in_range r.range at) refl

  -- a coordinate out of range
  outside_barless : in_range r.range at ≡ false → (p : Plan) → Barless s r at p
  outside_barless e Plan.Deferred = tt
  outside_barless e Plan.Skipped = tt
  outside_barless e (Plan.Tested t) = rw e tt

  -- a coordinate without a number, under a bar rule
  blank_bar : (colour : Rgb) (xs : List Float) → numeric_at s.cells at ≡ None → Barless s r at (Rule.bar colour xs)
  unfolding Rule.bar verdict Rule.on_value
  blank_bar colour [] e = tt
  blank_bar colour (x ∷ xs) e = rw e (inside (in_range r.range at))
    where
      inside : (b : Bool) → NoBar (cond b Outcome.Passed Outcome.Passed)
      inside true = tt
      inside false = tt

  blank_barless : numeric_at s.cells at ≡ None → Barless s r at (Rule.plan s r)
  unfolding Rule.plan Rule.plan_of
  blank_barless e = by (is_bar r.kind) refl
    where
      up : (b : Bool) (colour : Rgb) → Barless s r at (cond b (Rule.bar colour (values s r.range)) Plan.Deferred)
      up true colour = blank_bar colour (values s r.range) e
      up false colour = tt

      by : (b : Bool) → is_bar r.kind ≡ b → Barless s r at (Rule.plan s r)
      by false h = fills_barless h
      by true h =
          let (colour, is) = bar_colour r.kind h in
          subst (Barless s r at) (ap (λ (kind : CfRule). cond (upright r.range) (Rule.plan_of s r.range kind) Plan.Deferred) (sym is))
          (up (upright r.range) colour)

  -- a rule that does not draw, and any rule where there is no number
  pub barless : (i : IndexedRule) → i.rule ≡ r → (draws at i ≡ false) ⊎ (numeric_at s.cells at ≡ None)
      → Barless s r at (Rule.plan s r)
  barless i same (inr e) = blank_barless e
  barless i same (inl e) = by (is_bar r.kind) (upright r.range) (in_range r.range at) refl refl refl (rw same at e)
    where
      by : (a b c : Bool) → is_bar r.kind ≡ a → upright r.range ≡ b → in_range r.range at ≡ c → a && (b && c) ≡ false
          → Barless s r at (Rule.plan s r)
      by false b c f g h k = fills_barless f
      by true b false f g h k = outside_barless h (Rule.plan s r)
      by true false true f g h k = unfold Rule.plan in rw g tt
      by true true true f g h k = absurd (true≢false k)

-- ---- a bar

-- the ppm of a number among the values of a range
abbrev pub ppm_among : Float → List Float → ℕ
ppm_among x [] = 0
ppm_among x (v ∷ vs) = ratio x (least v vs) (greatest v vs)

-- the mark of a bar
pub record BarPaint (n : ℕ) (o : Outcome) : Type 0 where
  pub paint : Paint
  pub is : o ≡ Outcome.Painted paint
  pub bar : has_bar paint ≡ true
  pub ppm : paint.ppm ≡ n

module _ (s : Sheet) (i : IndexedRule) (at : CellCoordinate) (x : Float) (over : BarOver at i)
    (num : numeric_at s.cells at ≡ Some x) where
  -- the test that the rule comes to
  pub record BarTest : Type 0 where
    pub first : Float
    pub rest : List Float
    pub among : values s i.rule.range ≡ first ∷ rest
    pub plan : Rule.plan s i.rule ≡ Plan.Tested (Test.DataBar over.colour (least first rest) (greatest first rest))

  pub bar_test : BarTest
  unfolding Rule.plan Rule.plan_of values Rule.bar
  bar_test = by (values s i.rule.range) refl
    where
      by : (xs : List Float) → values s i.rule.range ≡ xs → BarTest
      by [] e =
          let m : Mem x [] = subst (Mem x) e (number_member i.rule.range at x over.holds s.cells num) in
          absurd (not-mem-nil m)
      by (v ∷ vs) e = record { first = v; rest = vs; among = e; plan = rw (over.is_upright, over.bar, e) }

  -- what it says of the coordinate
  pub bar_painted : (low high : Float) (state : RegionState) → state.stopped ≡ false
      → BarPaint (ratio x low high) (Run.outcome s i.rule (Test.DataBar over.colour low high) at state)
  unfolding Run.outcome verdict Rule.on_value Rule.barred has_bar ratio
  bar_painted low high state free =
      rw (free, over.holds, num)
      record { paint = _; is = refl; bar = bar_kind i.rule.imported; ppm = refl }

-- a bar leaves nothing unresolved
module _ (s : Sheet) (r : Rule) (colour : Rgb) (low high : Float) where
  abbrev Resolved : Outcome → Type 0
  Resolved o = (os : List Outcome) → Run.is_unresolved (o ∷ os) ≡ Run.is_unresolved os

  bar_resolved : (at : CellCoordinate) (state : RegionState) → Resolved (Run.outcome s r (Test.DataBar colour low high) at state)
  unfolding Run.outcome verdict Rule.on_value Rule.barred Run.is_unresolved
  bar_resolved at state = by state.stopped (in_range r.range at) (numeric_at s.cells at)
    where
      by : (a b : Bool) (x : Reading) → Resolved (cond a Outcome.Stopped (cond b
          (Rule.on_value x (λ x. Rule.barred r.imported colour (normalized x low high))) Outcome.Passed))
      by true b x = λ os. refl
      by false false x = λ os. refl
      by false true (Some x) = λ os. refl
      by false true None = λ os. refl

  pub bars_resolved : (ats : List CellCoordinate) (states : List RegionState)
      → Run.is_unresolved (Run.outcomes s r (Test.DataBar colour low high) ats states) ≡ false
  unfolding Run.outcomes Run.is_unresolved
  bars_resolved [] states = refl
  bars_resolved (at ∷ ats) [] = refl
  bars_resolved (at ∷ ats) (x ∷ xs) = bar_resolved at x (Run.outcomes s r (Test.DataBar colour low high) ats xs) ∙ bars_resolved ats xs

-- ---- the state of a region

-- its bar: the rule plus one, and the ppm
abbrev pub bar_of : RegionState → ℕ × ℕ
bar_of x = (x.bar_rule, x.bar_ppm)

-- without a bar it stays
pub no_bar_keeps : (rule : ℕ) (stop : Bool) (state : RegionState) (o : Outcome) → NoBar o
    → bar_of (Run.afterwards rule stop state o) ≡ bar_of state
unfolding Run.afterwards Run.painted
no_bar_keeps rule stop state Outcome.Stopped n = refl
no_bar_keeps rule stop state Outcome.Passed n = refl
no_bar_keeps rule stop state Outcome.Unresolved n = refl
no_bar_keeps rule stop state (Outcome.Painted p) n = rw n

-- a region that has one keeps it
pub bar_stays : (rule : ℕ) (stop : Bool) (state : RegionState) (o : Outcome) (n : ℕ) → state.bar_rule ≡ suc n
    → bar_of (Run.afterwards rule stop state o) ≡ bar_of state
unfolding Run.afterwards Run.painted
bar_stays rule stop state Outcome.Stopped n e = refl
bar_stays rule stop state Outcome.Passed n e = refl
bar_stays rule stop state Outcome.Unresolved n e = refl
bar_stays rule stop state (Outcome.Painted p) n e = by (has_bar p)
  where
    by : (b : Bool) → bar_of (record {
      stopped = state.stopped;
      bar_rule = cond (b && eqb state.bar_rule 0) (suc rule) state.bar_rule;
      bar_ppm = cond (b && eqb state.bar_rule 0) p.ppm state.bar_ppm;
    }) ≡ bar_of state
    by true = rw (e, eqb-suc-zero n)
    by false = refl

-- a region that has none takes it
pub bar_taken : (rule : ℕ) (stop : Bool) (state : RegionState) (p : Paint) → has_bar p ≡ true → state.bar_rule ≡ 0
    → bar_of (Run.afterwards rule stop state (Outcome.Painted p)) ≡ (suc rule, p.ppm)
unfolding Run.afterwards Run.painted
bar_taken rule stop state p b e = rw (b, e)
