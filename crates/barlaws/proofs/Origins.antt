-- Where a bar comes from, over a run: by induction over the rules in their order. The first bar rule over the region draws its bar, which
-- no later rule replaces; a rule with stop-if-true that marks the region ahead of it leaves the region to no later rule. Assumes nothing.
use Rattle.std.specs.Prelude.{Some, None}
use Prim.Native.Nat.{ℕ, suc, ◌<◌}
use native.Mathlib.Omega.{arith}
use mathlib.Core.Path.{◌≡◌, refl, sym, ap, ap₂, ◌∙◌, subst}
use mathlib.Core.Logic.{◌≢◌, ◌⊎◌, inl, inr, ⊎_elim}
use mathlib.Core.Bool.{Bool, true, false, ◌&&◌, true≢false}
use mathlib.Core.List.Memᴰ
use mathlib.Core.List.{List, [], ◌∷◌, ◌++◌, Memᴰ}
use mathlib.Core.List.Pairwise
use mathlib.Core.List.{Pairwise, rel_of_Pairwise-cons}
use lib.ListN.{length}
use lib.Ieee.{Float}
use Rattle.model.specs.declared.CellCoordinate.{CellCoordinate}
use Rattle.model.specs.Sheet.{Sheet}
use Rattle.model.specs.Readings.{numeric_at}
use Rattle.model.specs.Rule.{values}
use Rattle.model.specs.Run as Run
use Rattle.model.specs.Run.{Mark, RegionState, IndexedRule}
use Rattle.laws.proofs.ShapesOfMarks.{run_marks}
use Rattle.barlaws.specs.Origin.{Earlier, BarOver, HasMark}
use Rattle.barlaws.proofs.Regions.{state_at, region_of, is_painted}
use Rattle.barlaws.proofs.Bars.{draws, draws_over, over_draws, ppm_among, bar_of}
use Rattle.barlaws.proofs.Steps.{Fit, here, next, effect, next_fit, stays_stopped, stays_barred, stays_bare, bar_drawn, stops}

-- ---- the order of the rules

-- not both ways
pub earlier_not_later : (e i : IndexedRule) → Earlier e i → Earlier i e → ⊥
earlier_not_later e i (inl a) (inl b) = omega arith
earlier_not_later e i (inl a) (inr b) = omega arith
earlier_not_later e i (inr a) (inl b) = omega arith
earlier_not_later e i (inr a) (inr b) = omega arith

-- one is earlier than the other, and they have different indices
abbrev pub Ahead : IndexedRule → IndexedRule → Type 0
Ahead e i = Earlier e i × (e.index ≢ i.index)

-- ---- marks of a part of the rules

marked_ahead : {ms : List Mark} {rule region : ℕ} (ns : List Mark) → HasMark ms rule region → HasMark (ms ++ ns) rule region
marked_ahead ns h =
    record { mark = h.mark; there = Memᴰ.append_left ns h.there; of_rule = h.of_rule; on_region = h.on_region }

marked_behind : (ms : List Mark) {ns : List Mark} {rule region : ℕ} → HasMark ns rule region → HasMark (ms ++ ns) rule region
marked_behind ms h =
    record { mark = h.mark; there = Memᴰ.append_right ms h.there; of_rule = h.of_rule; on_region = h.on_region }

marked_either : (ms ns : List Mark) (rule region : ℕ) → HasMark (ms ++ ns) rule region → HasMark ms rule region ⊎ HasMark ns rule region
marked_either ms ns rule region h =
    ⊎_elim (λ there. inl (record { mark = h.mark; there = there; of_rule = h.of_rule; on_region = h.on_region }))
    (λ there. inr (record { mark = h.mark; there = there; of_rule = h.of_rule; on_region = h.on_region }))
    (Memᴰ.append_cases ms h.there)

-- the rule of a bar
barred_by : {a b : ℕ × ℕ} → a ≡ b → a.0 ≡ b.0
barred_by e = ap (λ (b : ℕ × ℕ). b.0) e

-- ---- all rules in order

module _ (s : Sheet) (k : ℕ) (h : k < length s.regions) where
  abbrev at : CellCoordinate
  at = region_of s k

  abbrev final : List IndexedRule → List RegionState → RegionState
  final is states = state_at k (Run.run_from s is states).states

  run_stopped : (is : List IndexedRule) (states : List RegionState) → Fit s k h states → (state_at k states).stopped ≡ true
      → final is states ≡ state_at k states
  unfolding Run.run_from Run.followed_by Run.unmarked
  run_stopped [] states fit st = refl
  run_stopped (i ∷ is) states fit st =
      let same = stays_stopped s k h i states fit st in
      run_stopped is (next s k h i states fit) (next_fit s k h i states fit) (ap (λ (x : RegionState). x.stopped) same ∙ st) ∙ same

  run_barred : (is : List IndexedRule) (states : List RegionState) → Fit s k h states → (n : ℕ) → (state_at k states).bar_rule ≡ suc n
      → bar_of (final is states) ≡ bar_of (state_at k states)
  unfolding Run.run_from Run.followed_by Run.unmarked
  run_barred [] states fit n e = refl
  run_barred (i ∷ is) states fit n e =
      let same = stays_barred s k h i states fit n e in
      run_barred is (next s k h i states fit) (next_fit s k h i states fit) n (barred_by same ∙ e) ∙ same

  -- a region without a number has no bar
  pub run_blank : numeric_at s.cells at ≡ None → (is : List IndexedRule) (states : List RegionState) → Fit s k h states
      → bar_of (final is states) ≡ bar_of (state_at k states)
  unfolding Run.run_from Run.followed_by Run.unmarked
  run_blank blank [] states fit = refl
  run_blank blank (i ∷ is) states fit =
      run_blank blank is (next s k h i states fit) (next_fit s k h i states fit) ∙ stays_bare s k h i states fit (inr blank)

  module _ (x : Float) (num : numeric_at s.cells at ≡ Some x) where
    -- the bar comes from one of the rules
    pub record Drawn (is : List IndexedRule) (marks : List Mark) (bar : ℕ × ℕ) : Type 0 where
      pub rule : IndexedRule
      pub listed : Memᴰ rule is
      pub over : BarOver at rule
      pub first : (e : IndexedRule) → Memᴰ e is → BarOver at e → Earlier e rule → ⊥
      pub unstopped : (e : IndexedRule) → Memᴰ e is → Earlier e rule → e.rule.stop ≡ true → HasMark marks e.index k → ⊥
      pub is_bar : bar ≡ (suc rule.index, ppm_among x (values s rule.rule.range))

    -- there is none, since each bar rule over the region comes behind a stop that marks it
    pub record Bare (is : List IndexedRule) (marks : List Mark) (bar : ℕ × ℕ) : Type 0 where
      pub is_bare : bar ≡ (0, 0)
      pub behind : (i : IndexedRule) → Memᴰ i is → BarOver at i
          → (e : IndexedRule) × Memᴰ e is × Earlier e i × (e.rule.stop ≡ true) × HasMark marks e.index k

    module _ (i : IndexedRule) (is : List IndexedRule) (order : Pairwise Ahead (i ∷ is)) where
      -- no listed rule is earlier than the first
      none_earlier : (e : IndexedRule) → Memᴰ e (i ∷ is) → Earlier e i → ⊥
      none_earlier e m a =
          ⊎_elim (λ same. earlier_not_later e i a (subst (λ (d : IndexedRule). Earlier d e) same (subst (Earlier e) (sym same) a)))
          (λ later. earlier_not_later e i a (rel_of_Pairwise-cons order ∣ later ∣₁).0) (Memᴰ.cases_cons m)

      -- a mark of a later rule is none of the first
      later_others : (states : List RegionState) → HasMark (Run.run_from s is states).marks i.index k → ⊥
      later_others states m =
          let (e, listed, of) = run_marks s is states m.mark m.there in
          (rel_of_Pairwise-cons order ∣ listed ∣₁).1 (sym m.of_rule ∙ of.rule)

      module _ (states : List RegionState) (fit : Fit s k h states) where
        abbrev first_marks : List Mark
        first_marks = (Run.step s i states).marks

        abbrev later_marks : List Mark
        later_marks = (Run.run_from s is (next s k h i states fit)).marks

        abbrev end : ℕ × ℕ
        end = bar_of (final is (next s k h i states fit))

        -- the first rule draws
        drawn_now : draws at i ≡ true → (state_at k states).stopped ≡ false → bar_of (state_at k states) ≡ (0, 0)
            → Drawn (i ∷ is) (first_marks ++ later_marks) end
        drawn_now d free bare =
            let over = draws_over at i d in
            let bar = bar_drawn s k h i states fit x num over free (barred_by bare) in
            record {
              rule = i;
              listed = Memᴰ.head refl;
              over = over;
              first = λ e m o a. none_earlier e m a;
              unstopped = λ e m a st mk. none_earlier e m a;
              is_bar = run_barred is (next s k h i states fit) (next_fit s k h i states fit) i.index (barred_by bar) ∙ bar;
            }

        module _ (quiet : draws at i ≡ false) where
          not_over : (e : IndexedRule) → e ≡ i → BarOver at e → ⊥
          not_over e same o = true≢false (sym (over_draws at i (subst (BarOver at) same o)) ∙ quiet)

          -- it stops the region
          bare_now : (state_at k states).stopped ≡ false → bar_of (state_at k states) ≡ (0, 0) → i.rule.stop ≡ true
              → is_painted (here s k h i states fit) ≡ true → Bare (i ∷ is) (first_marks ++ later_marks) end
          bare_now free bare st paint =
              let stopped : (state_at k (next s k h i states fit)).stopped ≡ true = stops s k h i states fit free ∙ ap₂ ◌&&◌ st paint in
              record {
                is_bare =
                    ap bar_of (run_stopped is (next s k h i states fit) (next_fit s k h i states fit) stopped)
                    ∙ stays_bare s k h i states fit (inl quiet) ∙ bare;
                behind = λ j m o. ⊎_elim (λ same. absurd (not_over j same o))
                    (λ later.
                    let mark = marked_ahead later_marks ((effect s k h i states fit).marked paint) in
                    (i, Memᴰ.head refl, (rel_of_Pairwise-cons order ∣ later ∣₁).0, st, mark)) (Memᴰ.cases_cons m);
              }

          -- it does neither
          drawn_later : i.rule.stop && is_painted (here s k h i states fit) ≡ false → Drawn is later_marks end
              → Drawn (i ∷ is) (first_marks ++ later_marks) end
          drawn_later passes d =
              record {
                rule = d.rule;
                listed = Memᴰ.tail d.listed;
                over = d.over;
                first = λ e m o a. ⊎_elim (λ same. not_over e same o) (λ l. d.first e l o a) (Memᴰ.cases_cons m);
                unstopped = λ e m a st mk.
                    ⊎_elim (λ same. by_first e same st (marked_either first_marks later_marks e.index k mk))
                    (λ l. by_later e l a st (marked_either first_marks later_marks e.index k mk)) (Memᴰ.cases_cons m);
                is_bar = d.is_bar;
              }
            where
              by_first : (e : IndexedRule) → e ≡ i → e.rule.stop ≡ true
                  → HasMark first_marks e.index k ⊎ HasMark later_marks e.index k → ⊥
              by_first e same st (inl mk) =
                  let st' : i.rule.stop ≡ true = ap (λ (d : IndexedRule). d.rule.stop) (sym same) ∙ st in
                  true≢false (sym (ap₂ ◌&&◌ st' ((effect s k h i states fit).only e.index mk).1) ∙ passes)
              by_first e same st (inr mk) =
                  later_others (next s k h i states fit)
                  (subst (λ (n : ℕ). HasMark later_marks n k) (ap (λ (d : IndexedRule). d.index) same) mk)

              by_later : (e : IndexedRule) → Memᴰ e is → Earlier e d.rule → e.rule.stop ≡ true
                  → HasMark first_marks e.index k ⊎ HasMark later_marks e.index k → ⊥
              by_later e l a st (inl mk) = (rel_of_Pairwise-cons order ∣ l ∣₁).1 (sym ((effect s k h i states fit).only e.index mk).0)
              by_later e l a st (inr mk) = d.unstopped e l a st mk

          bare_later : Bare is later_marks end → Bare (i ∷ is) (first_marks ++ later_marks) end
          bare_later b =
              record {
                is_bare = b.is_bare;
                behind = λ j m o. ⊎_elim (λ same. absurd (not_over j same o))
                    (λ l.
                    let (e, listed, a, st, mk) = b.behind j l o in
                    (e, Memᴰ.tail listed, a, st, marked_behind first_marks mk)) (Memᴰ.cases_cons m);
              }

    -- from a region that is not stopped and has no bar
    pub traced : (is : List IndexedRule) (states : List RegionState) → Fit s k h states → Pairwise Ahead is
        → (state_at k states).stopped ≡ false → bar_of (state_at k states) ≡ (0, 0)
        → Drawn is (Run.run_from s is states).marks (bar_of (final is states))
        ⊎ Bare is (Run.run_from s is states).marks (bar_of (final is states))
    unfolding Run.run_from Run.followed_by Run.unmarked
    traced [] states fit order free bare = inr (record { is_bare = bare; behind = λ i m. absurd (Memᴰ.not-nil m) })
    traced (i ∷ is) states fit order free bare =
        by (draws at i) refl (traced is (next s k h i states fit) (next_fit s k h i states fit) (Pairwise.of_cons order))
      where
        Ended : List IndexedRule → List Mark → Type 0
        Ended js marks = Drawn js marks (end i is order states fit) ⊎ Bare js marks (end i is order states fit)

        all : List Mark
        all = first_marks i is order states fit ++ later_marks i is order states fit

        Rest : Type 0
        Rest = (state_at k (next s k h i states fit)).stopped ≡ false → bar_of (state_at k (next s k h i states fit)) ≡ (0, 0)
            → Ended is (later_marks i is order states fit)

        go : draws at i ≡ false → i.rule.stop && is_painted (here s k h i states fit) ≡ false → Rest → Ended (i ∷ is) all
        go q passes rest =
            ⊎_elim (λ d. inl (drawn_later i is order states fit q passes d)) (λ b. inr (bare_later i is order states fit q b))
            (rest (stops s k h i states fit free ∙ passes) (stays_bare s k h i states fit (inl q) ∙ bare))

        unstopped : draws at i ≡ false → (a b : Bool) → i.rule.stop ≡ a → is_painted (here s k h i states fit) ≡ b → Rest
            → Ended (i ∷ is) all
        unstopped q true true st paint rest = inr (bare_now i is order states fit q free bare st paint)
        unstopped q true false st paint rest = go q (ap₂ ◌&&◌ st paint) rest
        unstopped q false b st paint rest = go q (ap₂ ◌&&◌ st paint) rest

        by : (b : Bool) → draws at i ≡ b → Rest → Ended (i ∷ is) all
        by true d rest = inl (drawn_now i is order states fit d free bare)
        by false q rest = unstopped q i.rule.stop (is_painted (here s k h i states fit)) refl refl rest
