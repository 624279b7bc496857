-- What a job has whose checks pass: columns of one length, few cells and regions that rise, and room for bars and values. Assumes nothing.
use Prim.Native.Nat.{ℕ, ◌≤◌}
use native.Mathlib.Omega.{arith}
use mathlib.Core.Path.{◌≡◌, refl, sym}
use mathlib.Core.Bool.{Bool, true, false, cond, not, ◌&&◌, ◌||◌, false≢true}
use mathlib.Core.List.{List, [], ◌∷◌}
use mathlib.Core.Option.{Option, none, some}
use lib.Dec.{ltb}
use lib.ListN.{length}
use borrow.Author.Tests.{ltb-false, eqb-true}
use Rattle.model.specs.Answer.{Summary}
use Rattle.model.specs.Job.{Job, Lengths, cell_count, region_count, lengths_differ, too_many, first_fall, refuse_if, first_of, malformed, space_short}
use Rattle.checks.specs.Checked.{refusal_of}
use Rattle.laws.proofs.Apart.{columns_rise}
use Rattle.laws.proofs.DemandOne.{roomy_spaces}

first_none : (a b : Option Summary) → first_of (a ∷ b ∷ []) ≡ none → (a ≡ none) × (b ≡ none)
unfolding first_of
first_none none none h = (refl, refl)
first_none none (some s) h = absurd (let no : ◌≡◌ {A = ℕ} 0 1 = cc in omega arith)
first_none (some s) b h = absurd (let no : ◌≡◌ {A = ℕ} 0 1 = cc in omega arith)

-- the first of several is not met
head_none : (met : Bool) (s : Summary) (cs : List (Option Summary)) → first_of (cond met (some s) none ∷ cs) ≡ none → met ≡ false
unfolding first_of
head_none false s cs h = refl
head_none true s cs h = absurd (let no : ◌≡◌ {A = ℕ} 0 1 = cc in omega arith)

-- the second of several is not met
second_none : (a : Option Summary) (met : Bool) (s : Summary) (cs : List (Option Summary)) → first_of (a ∷ cond met (some s) none ∷ cs)
    ≡ none
    → met ≡ false
unfolding first_of
second_none none false s cs h = refl
second_none none true s cs h = absurd (let no : ◌≡◌ {A = ℕ} 0 1 = cc in omega arith)
second_none (some x) met s cs h = absurd (let no : ◌≡◌ {A = ℕ} 0 1 = cc in omega arith)

none_of_two : (a b c d : Bool) → a || b || c || d ≡ false → (a ≡ false) × (b ≡ false)
none_of_two false false c d h = (refl, refl)
none_of_two false true c d h = (refl, h)
none_of_two true b c d h = absurd (let no : ◌≡◌ {A = ℕ} 0 1 = cc in omega arith)

-- the first and the last of seven
ends_of : (a b c d e f g : Bool) → not (a && b && c && d && e && f && g) ≡ false → (a ≡ true) × (g ≡ true)
ends_of true true true true true true true h = (refl, refl)
ends_of true true true true true true false h = absurd (false≢true (sym h))
ends_of true true true true true false g h = absurd (false≢true (sym h))
ends_of true true true true false f g h = absurd (false≢true (sym h))
ends_of true true true false e f g h = absurd (false≢true (sym h))
ends_of true true false d e f g h = absurd (false≢true (sym h))
ends_of true false c d e f g h = absurd (false≢true (sym h))
ends_of false b c d e f g h = absurd (false≢true (sym h))

module _ (j : Job) where
  same : malformed j ≡ none → (length j.cells.cols ≡ cell_count j) × (length j.region_cols ≡ region_count j)
  unfolding malformed refuse_if lengths_differ
  same h =
      let both = ends_of _ _ _ _ _ _ _ (head_none (lengths_differ j) _ _ h) in
      (eqb-true _ _ both.0, eqb-true _ _ both.1)

  few : malformed j ≡ none → (cell_count j ≤ 1024) × (region_count j ≤ 1024)
  unfolding malformed refuse_if too_many
  few h =
      let both = none_of_two (ltb 1024 (cell_count j)) (ltb 1024 (region_count j)) (ltb 64 j.rules.number) (ltb 65_536 (length j.pool))
      (second_none _ (too_many j) _ _ h) in
      (ltb-false 1024 (cell_count j) both.0, ltb-false 1024 (region_count j) both.1)

  -- what the checks leave
  pub record Fine (l : Lengths) : Type 0 where
    pub cell_cols : length j.cells.cols ≡ cell_count j
    pub region_cols : length j.region_cols ≡ region_count j
    pub cells : cell_count j ≤ 1024
    pub regions : region_count j ≤ 1024
    pub cells_rise : first_fall j.cells.rows j.cells.cols ≡ none
    pub regions_rise : first_fall j.region_rows j.region_cols ≡ none
    pub bar_rules : region_count j ≤ l.bar_rules
    pub bar_ppms : region_count j ≤ l.bar_ppms
    pub scratch : cell_count j ≤ l.scratch

  pub checked_fine : (l : Lengths) → refusal_of j l ≡ none → Fine l
  unfolding refusal_of
  checked_fine l h =
      let both = first_none (malformed j) (space_short j l) h in
      let s = roomy_spaces j l both.1 in
      let rise = columns_rise j both.0 in
      record {
        cell_cols = (same both.0).0;
        region_cols = (same both.0).1;
        cells = (few both.0).0;
        regions = (few both.0).1;
        cells_rise = rise.0;
        regions_rise = rise.1;
        bar_rules = s.bar_rules;
        bar_ppms = s.bar_ppms;
        scratch = s.scratch;
      }
