-- What one rule in its turn does to the state of one region: a stopped region stays, a bar stays, a rule that draws none leaves it, one
-- that draws gives it to a region that has none, and a mark of a rule with stop-if-true stops it. Assumes nothing.
use Rattle.std.specs.Prelude.{Some, None}
use Prim.Native.Nat.{ℕ, suc, ◌<◌}
use mathlib.Core.Path.{◌≡◌, refl, sym, ap, ◌∙◌}
use mathlib.Core.Logic.{◌⊎◌}
use mathlib.Core.Bool.{Bool, true, false, cond, ◌&&◌}
use mathlib.Core.List.{List}
use lib.ListN.{length}
use lib.Ieee.{Float}
use Rattle.model.specs.declared.CellCoordinate.{CellCoordinate}
use Rattle.model.specs.declared.Outcome.{Outcome}
use Rattle.model.specs.declared.Plan.{Plan}
use Rattle.model.specs.declared.Test.{Test}
use Rattle.model.specs.Sheet.{Sheet, in_range}
use Rattle.model.specs.Readings.{numeric_at}
use Rattle.model.specs.Values.{least, greatest}
use Rattle.model.specs.Rule as Rule
use Rattle.model.specs.Rule.{values, verdict}
use Rattle.model.specs.Run as Run
use Rattle.model.specs.Run.{RegionState, IndexedRule}
use Rattle.laws.proofs.Lengths.{step_length}
use Rattle.barlaws.specs.Origin.{BarOver}
use Rattle.barlaws.proofs.Regions.{state_at, outcome_at, region_of, is_painted, Effect, told, says, step_effect, says_at, stopped_after}
use Rattle.barlaws.proofs.Bars.{draws, NoBar, Barless, barless, ppm_among, bar_test, bar_painted, bars_resolved}
use Rattle.barlaws.proofs.Bars.{bar_of, no_bar_keeps, bar_stays, bar_taken}

module _ (s : Sheet) (k : ℕ) (h : k < length s.regions) where
  abbrev pub at : CellCoordinate
  at = region_of s k

  abbrev pub Fit : List RegionState → Type 0
  Fit states = length states ≡ length s.regions

  module _ (i : IndexedRule) (states : List RegionState) (fit : Fit states) where
    abbrev pub here : Outcome
    here = told s i k states (Rule.plan s i.rule)

    abbrev pub next : List RegionState
    next = (Run.step s i states).states

    abbrev pub effect : Effect i k (state_at k states) (Run.step s i states) here
    effect = step_effect s i k states fit

    pub next_fit : Fit next
    next_fit = step_length s i states ∙ fit

    -- a stopped region stays as it is
    told_stopped : (state_at k states).stopped ≡ true → (p : Plan)
        → Run.afterwards i.index i.rule.stop (state_at k states) (told s i k states p) ≡ state_at k states
    unfolding Run.afterwards Run.outcome
    told_stopped st Plan.Deferred = refl
    told_stopped st Plan.Skipped = refl
    told_stopped st (Plan.Tested t) = by (Run.is_unresolved (says s i k states t))
      where
        by : (b : Bool) → Run.afterwards i.index i.rule.stop (state_at k states)
            (cond b Outcome.Passed (outcome_at k (says s i k states t))) ≡ state_at k states
        by true = refl
        by false = rw (says_at s i k states fit t h, st)

    pub stays_stopped : (state_at k states).stopped ≡ true → state_at k next ≡ state_at k states
    stays_stopped st = effect.state ∙ told_stopped st (Rule.plan s i.rule)

    -- a bar stays
    pub stays_barred : (n : ℕ) → (state_at k states).bar_rule ≡ suc n → bar_of (state_at k next) ≡ bar_of (state_at k states)
    stays_barred n e = ap bar_of effect.state ∙ bar_stays i.index i.rule.stop (state_at k states) here n e

    -- a rule that draws no bar here leaves it as it is
    told_barless : (p : Plan) → Barless s i.rule at p → NoBar (told s i k states p)
    unfolding Run.outcome
    told_barless Plan.Deferred n = tt
    told_barless Plan.Skipped n = tt
    told_barless (Plan.Tested t) n = by (Run.is_unresolved (says s i k states t))
      where
        free : (b : Bool) → NoBar (cond b Outcome.Stopped (cond (in_range i.rule.range at) (verdict s i.rule at t) Outcome.Passed))
        free true = tt
        free false = n

        by : (b : Bool) → NoBar (cond b Outcome.Passed (outcome_at k (says s i k states t)))
        by true = tt
        by false = rw (says_at s i k states fit t h) (free (state_at k states).stopped)

    pub stays_bare : (draws at i ≡ false) ⊎ (numeric_at s.cells at ≡ None) → bar_of (state_at k next) ≡ bar_of (state_at k states)
    stays_bare e =
        ap bar_of effect.state
        ∙ no_bar_keeps i.index i.rule.stop (state_at k states) here
        (told_barless (Rule.plan s i.rule) (barless s i.rule at i refl e))

    -- a rule that draws gives a region that is not stopped and has no bar its bar
    pub bar_drawn : (x : Float) → numeric_at s.cells at ≡ Some x → BarOver at i → (state_at k states).stopped ≡ false
        → (state_at k states).bar_rule ≡ 0 → bar_of (state_at k next) ≡ (suc i.index, ppm_among x (values s i.rule.range))
    bar_drawn x num over free bare =
        let b = bar_test s i at x over num in
        let low = least b.first b.rest in
        let high = greatest b.first b.rest in
        let t = Test.DataBar over.colour low high in
        let p = bar_painted s i at x over num low high (state_at k states) free in
        let is : here ≡ Outcome.Painted p.paint =
        ap (told s i k states) b.plan
        ∙ ap (λ (c : Bool). cond c Outcome.Passed (outcome_at k (says s i k states t)))
        (bars_resolved s i.rule over.colour low high s.regions states)
        ∙ says_at s i k states fit t h ∙ p.is in
        ap bar_of (effect.state ∙ ap (Run.afterwards i.index i.rule.stop (state_at k states)) is)
        ∙ bar_taken i.index i.rule.stop (state_at k states) p.paint p.bar bare
        ∙ ap {B = ℕ × ℕ} (λ (n : ℕ). (suc i.index, n)) (p.ppm ∙ ap (ppm_among x) (sym b.among))

    -- a region that is not stopped is stopped by a mark of a rule with stop-if-true
    pub stops : (state_at k states).stopped ≡ false → (state_at k next).stopped ≡ i.rule.stop && is_painted here
    stops free =
        ap (λ (x : RegionState). x.stopped) effect.state ∙ stopped_after i.index i.rule.stop (state_at k states) here free
