-- The bar of a region is the one that the words of specs/Origin.antt give it, in every run over cells that stand apart, and so in every
-- well-formed job. Assumes nothing.
use Rattle.std.specs.Prelude.{Some, None}
use Prim.Native.Nat.{ℕ, zero, suc, ◌+◌, ◌<◌}
use native.Mathlib.Nat.{add-zero, zero-add}
use native.Mathlib.Omega.{arith}
use mathlib.Core.Path.{◌≡◌, refl, sym, ap, ◌∙◌, subst}
use mathlib.Core.Logic.{inl, inr, ⊎_elim, ∥∥₁_elim}
use mathlib.Core.HLevel.{⊥_prop}
use mathlib.Core.Bool.{true}
use mathlib.Core.List.Pairwise
use mathlib.Core.List.{List, Memᴰ, Pairwise}
use lib.Ieee.{Float, nan}
use lib.ListN.{length, get_or, replicate, length-replicate, get_or-replicate}
use Rattle.model.specs.declared.CellCoordinate.{CellCoordinate}
use Rattle.model.specs.Options.{Priority, Reading}
use Rattle.model.specs.declared.Rule.{Rule}
use Rattle.model.specs.Sheet.{Sheet, regions_from}
use Rattle.model.specs.Readings.{numeric_at}
use Rattle.model.specs.Rule.{values}
use Rattle.model.specs.Run as Run
use Rattle.model.specs.Run.{Mark, RegionState, IndexedRule, untouched, precedence_of, precedence, earlier, ordered}
use Rattle.model.specs.Job.{Job, rules_of, region_count, sheet_of, run_of}
use Rattle.laws.specs.Demands.{WellFormed}
use Rattle.laws.proofs.Order.{earlier_reads, ordered_entry, ordered_listed, ordered_rises}
use Rattle.laws.proofs.Lengths.{regions_length}
use Rattle.laws.proofs.Apart.{Apart, rising_apart, sheet_rising}
use Rattle.barlaws.specs.Origin.{PpmIn, RuleOf, priority_or, priority_of, Earlier, HasMark, region_at, Origin, BarFrom}
use Rattle.barlaws.proofs.Regions.{state_at, nowhere, region_of}
use Rattle.barlaws.proofs.Bars.{ppm_among, bar_test, bar_of}
use Rattle.barlaws.proofs.Origins.{earlier_not_later, Ahead, run_blank, Drawn, Bare, traced}
use Rattle.barlaws.proofs.Numbers.{Held, ratio_in, columns_held}

-- ---- the order of the rules

precedence_is : (i : IndexedRule) → precedence i ≡ priority_of i
unfolding precedence_of
precedence_is i = by i.rule.priority
  where
    by : (p : Priority) → precedence_of i.index p ≡ priority_or (suc i.index) p
    by (Some p) = refl
    by None = refl

-- rules neither of which is earlier have the same index
neither_earlier : (e i : IndexedRule) → (Earlier e i → ⊥) → (Earlier i e → ⊥) → e.index ≡ i.index
neither_earlier e i n m =
    let not_lower : priority_of e < priority_of i → ⊥ = λ h. n (inl h) in
    let not-higher : priority_of i < priority_of e → ⊥ = λ h. m (inl h) in
    let p : priority_of e ≡ priority_of i = omega (arith, not_lower, not-higher) in
    let not_before : e.index < i.index → ⊥ = λ h. n (inr (p, h)) in
    let not_behind : i.index < e.index → ⊥ = λ h. m (inr (sym p, h)) in
    omega (arith, not_before, not_behind)

module _ (rules : List Rule) where
  listed_rule : (i : IndexedRule) → Memᴰ i (ordered rules) → RuleOf rules i
  listed_rule i m = let (w, t) = ordered_entry rules i m in record { within = w; there = t }

  rule_listed : (i : IndexedRule) → RuleOf rules i → Memᴰ i (ordered rules)
  rule_listed i r = ordered_listed rules i r.within r.there

  same_rule : (e i : IndexedRule) → RuleOf rules e → RuleOf rules i → e.index ≡ i.index → e.rule ≡ i.rule
  same_rule e i a b same = sym (a.there e.rule) ∙ ap (λ (n : ℕ). get_or rules n e.rule) same ∙ b.there e.rule

  same_not_earlier : (e i : IndexedRule) → RuleOf rules e → RuleOf rules i → Earlier e i → e.index ≡ i.index → ⊥
  same_not_earlier e i a b h same =
      let is : e ≡ i = λ t. record { index = same t; rule = same_rule e i a b same t } in
      let back : Earlier i e = subst (λ (d : IndexedRule). Earlier d e) is (subst (Earlier e) (sym is) h) in
      earlier_not_later e i h back

  earlier_is : (e i : IndexedRule) → earlier e i ≡ true → Earlier e i
  earlier_is e i h =
      ⊎_elim (λ l. inl (omega (arith, l, precedence_is e, precedence_is i)))
      (λ l. inr (omega (arith, l.0, precedence_is e, precedence_is i), l.1)) ((earlier_reads e i).0 h)

  -- `ordered` goes by the words' own order
  ordered_ahead : Pairwise Ahead (ordered rules)
  ordered_ahead =
      Pairwise.imp_of_mem
      (λ e i m n h. (
        earlier_is e i h,
        λ same. ∥∥₁_elim m ⊥_prop (λ a. ∥∥₁_elim n ⊥_prop (λ b.
            same_not_earlier e i (listed_rule e a) (listed_rule i b) (earlier_is e i h) same)),
      ))
      (ordered_rises rules)

-- ---- a run

abbrev number_or : Reading → Float
number_or (Some x) = x
number_or None = nan

module _ (s : Sheet) (rules : List Rule) (k : ℕ) (h : k < length s.regions) (apart : Apart s.cells) (held : Held s) where
  abbrev at : CellCoordinate
  at = region_of s k

  abbrev marks : List Mark
  marks = (Run.run s rules).marks

  abbrev final : RegionState
  final = state_at k (Run.run s rules).states

  abbrev Explained : Type 0
  Explained = BarFrom s rules (HasMark marks) k at final.bar_rule final.bar_ppm

  abbrev start : List RegionState
  start = replicate (length s.regions) untouched

  start_length : length start ≡ length s.regions
  start_length = length-replicate (length s.regions) untouched

  start_at : state_at k start ≡ untouched
  start_at = get_or-replicate (length s.regions) k untouched untouched h

  -- a cell that is not numeric
  by_blank : numeric_at s.cells at ≡ None → Explained
  unfolding Run.run
  by_blank blank =
      let none : bar_of final ≡ (0, 0) = run_blank s k h blank (ordered rules) start start_length ∙ ap bar_of start_at in
      let zeros : (final.bar_rule ≡ 0) × (final.bar_ppm ≡ 0) = (ap (λ (b : ℕ × ℕ). b.0) none, ap (λ (b : ℕ × ℕ). b.1) none) in
      record {
        drawn = λ i o. absurd (let no : ◌≡◌ {A = ℕ} 0 1 = cc in omega arith);
        otherwise = λ no. zeros;
        blank = λ e. zeros;
        from = λ n e. absurd (omega (arith, e, zeros.0));
      }

  module _ (x : Float) (num : numeric_at s.cells at ≡ Some x) where
    -- the bar comes from a rule
    module _ (d : Drawn s k h x num (ordered rules) marks (bar_of final)) where
      rule_of : RuleOf rules d.rule
      rule_of = listed_rule rules d.rule d.listed

      origin : Origin s rules (HasMark marks) k at d.rule
      origin =
          record {
            number = x;
            numeric = num;
            first = record {
              of_job = rule_of;
              over = d.over;
              first = λ e r o a. d.first e (rule_listed rules e r) o a;
            };
            unstopped = λ e r a st mk. d.unstopped e (rule_listed rules e r) a st mk;
          }

      -- no other rule is the first
      same_index : (i : IndexedRule) → Origin s rules (HasMark marks) k at i → i.index ≡ d.rule.index
      same_index i o =
          neither_earlier i d.rule (d.first i (rule_listed rules i o.first.of_job) o.first.over)
          (o.first.first d.rule rule_of d.over)

      ppm_in : PpmIn s d.rule.rule.range x final.bar_ppm
      ppm_in =
          let b = bar_test s d.rule at x d.over num in
          let is : final.bar_ppm ≡ ppm_among x (values s d.rule.rule.range) = ap (λ (b : ℕ × ℕ). b.1) d.is_bar in
          subst (PpmIn s d.rule.rule.range x) (sym (is ∙ ap (ppm_among x) b.among))
          (ratio_in s d.rule.rule.range apart b.first b.rest b.among held x)

      by_drawn : Explained
      by_drawn =
          let is : final.bar_rule ≡ suc d.rule.index = ap (λ (b : ℕ × ℕ). b.0) d.is_bar in
          record {
            drawn = λ i o.
                let same = same_index i o in
                let number : x ≡ o.number = ap number_or (sym num ∙ o.numeric) in (
                  is ∙ ap suc (sym same),
                  subst (λ (r : Rule). PpmIn s r.range o.number final.bar_ppm)
                      (sym (same_rule rules i d.rule o.first.of_job rule_of same))
                      (subst (λ (y : Float). PpmIn s d.rule.rule.range y final.bar_ppm) number ppm_in),
                );
            otherwise = λ no. absurd (no d.rule origin);
            blank = λ e. absurd (let no : ◌≡◌ {A = ℕ} 0 1 = cc in omega arith);
            from = λ n e. (d.rule, omega (arith, e, is), origin);
          }

    -- there is none
    by_bare : Bare s k h x num (ordered rules) marks (bar_of final) → Explained
    by_bare b =
        let zeros : (final.bar_rule ≡ 0) × (final.bar_ppm ≡ 0) =
        (ap (λ (b : ℕ × ℕ). b.0) b.is_bare, ap (λ (b : ℕ × ℕ). b.1) b.is_bare) in
        record {
          drawn = λ i o.
              let (e, listed, a, st, mk) = b.behind i (rule_listed rules i o.first.of_job) o.first.over in
              absurd (o.unstopped e (listed_rule rules e listed) a st mk);
          otherwise = λ no. zeros;
          blank = λ e. zeros;
          from = λ n e. absurd (omega (arith, e, zeros.0));
        }

    by_number : Explained
    unfolding Run.run
    by_number =
        ⊎_elim by_drawn by_bare
        (traced s k h x num (ordered rules) start start_length (ordered_ahead rules) (ap (λ (x : RegionState). x.stopped) start_at)
        (ap bar_of start_at))

  pub run_bars : Explained
  run_bars = by (numeric_at s.cells at) refl
    where
      by : (n : Reading) → numeric_at s.cells at ≡ n → Explained
      by (Some x) e = by_number x e
      by None e = by_blank e

-- ---- a job

region_at_lem : (rows cols : List ℕ) (i n k : ℕ) → k < n
    → get_or (regions_from rows cols i n) k nowhere ≡ record { row = get_or rows (i + k) 0; col = get_or cols (i + k) 0 }
unfolding regions_from
region_at_lem rows cols i zero k h = absurd (omega arith)
region_at_lem rows cols i (suc n) zero h =
    ap (λ (m : ℕ). record { row = get_or rows m 0; col = get_or cols m 0 }) (sym (add-zero i))
region_at_lem rows cols i (suc n) (suc k) h =
    let e : suc i + k ≡ i + suc k = omega arith in
    region_at_lem rows cols (suc i) n k (omega arith) ∙ ap (λ (m : ℕ). record { row = get_or rows m 0; col = get_or cols m 0 }) e

-- each region's bar of a well-formed job, over the run without a limit
pub job_bars : (j : Job) → WellFormed j → (k : ℕ) → k < region_count j
    → BarFrom (sheet_of j) (rules_of j) (HasMark (run_of j).marks) k (region_at j k)
    (state_at k (run_of j).states).bar_rule (state_at k (run_of j).states).bar_ppm
unfolding sheet_of run_of
job_bars j good k h =
    let n = region_count j in
    let there : region_of (sheet_of j) k ≡ region_at j k =
    region_at_lem j.region_rows j.region_cols 0 n k h
    ∙ ap (λ (m : ℕ). record { row = get_or j.region_rows m 0; col = get_or j.region_cols m 0 }) (zero-add k) in
    subst (λ (at : CellCoordinate). BarFrom (sheet_of j) (rules_of j) (HasMark (run_of j).marks) k at
    (state_at k (run_of j).states).bar_rule (state_at k (run_of j).states).bar_ppm) there
    (run_bars (sheet_of j) (rules_of j) k (omega (arith, h, regions_length j.region_rows j.region_cols 0 n))
    (rising_apart (sheet_of j).cells (sheet_rising j good)) (columns_held j.cells _))
