-- Two held keys compared: by their words, their tags and, of texts with one word, their letters. Assumes nothing.
use Rattle.std.specs.Prelude.{Some, None}
use Prim.Native.Nat.{ℕ, ◌-◌, ◌^◌}
use mathlib.Core.Path.{◌≡◌, refl, sym, ap, ◌∙◌}
use mathlib.Core.Bool.{Bool, true, false, cond, ◌&&◌, beq}
use mathlib.Core.List.{List, [], ◌∷◌}
use native.Mathlib.Omega.{arith}
use lib.Dec.{eqb}
use lib.ListN.{get_or}
use borrow.Author.Tests.{eqb-true, eq-eqb}
use Rattle.model.specs.Options.{Key}
use Rattle.model.specs.declared.ConditionalValueKey.{ConditionalValueKey}
use Rattle.model.specs.declared.Span.{Span}
use Rattle.model.specs.Sheet.{text_at}
use Rattle.model.specs.Readings.{same_letters, same_key, has_key}
use Rattle.keys.specs.Held.{code_from, code_of, tag_of, word_of, span_at, HeldBy}
use Rattle.keys.specs.Codes.{letters_of, rank_of}
use Rattle.keys.proofs.SameKeys.{differ, not_so, and_first, and_second, letters_equal, letters_same, beq_equal}
use Rattle.keys.proofs.Naming.{keyed_within, padded_at}

pub tag_none : (k : Key) → tag_of k ≡ 0 → has_key k ≡ false
unfolding tag_of has_key
tag_none (Some (ConditionalValueKey.Number a)) h = absurd (omega arith)
tag_none (Some (ConditionalValueKey.Text t)) h = absurd (omega arith)
tag_none (Some (ConditionalValueKey.Bool b)) h = absurd (omega arith)
tag_none None h = refl

pub tag_some : (k : Key) → (tag_of k ≡ 0 → ⊥) → has_key k ≡ true
unfolding tag_of has_key
tag_some (Some (ConditionalValueKey.Number a)) h = refl
tag_some (Some (ConditionalValueKey.Text t)) h = refl
tag_some (Some (ConditionalValueKey.Bool b)) h = refl
tag_some None h = absurd (h refl)

pub span_equal : (s t : Span) → eqb s.at t.at && eqb s.len t.len ≡ true → s ≡ t
span_equal s t h =
    let at : s.at ≡ t.at = eqb-true _ _ (and_first _ _ h) in
    let len : s.len ≡ t.len = eqb-true _ _ (and_second (eqb s.at t.at) _ h) in
    λ x. record { at = at x; len = len x }

module _ (pool : List ℕ) where
  -- keys that are the same have one rank: one word, one tag, the same letters
  pub rank_shared : (k l : Key) → same_key pool k l ≡ true → rank_of pool k ≡ rank_of pool l
  unfolding same_key word_of code_of tag_of letters_of
  rank_shared (Some (ConditionalValueKey.Number a)) (Some (ConditionalValueKey.Number b)) h = ap (λ (n : ℕ). n ∷ 1 ∷ []) (eqb-true a b h)
  rank_shared (Some (ConditionalValueKey.Number a)) (Some (ConditionalValueKey.Text t)) h = differ h
  rank_shared (Some (ConditionalValueKey.Number a)) (Some (ConditionalValueKey.Bool b)) h = differ h
  rank_shared (Some (ConditionalValueKey.Number a)) None h = differ h
  rank_shared (Some (ConditionalValueKey.Text s)) (Some (ConditionalValueKey.Number b)) h = differ h
  rank_shared (Some (ConditionalValueKey.Text s)) (Some (ConditionalValueKey.Text t)) h =
      ap (λ (bs : List ℕ). code_from 1 bs ∷ 2 ∷ bs) (letters_equal (text_at pool s) (text_at pool t) h)
  rank_shared (Some (ConditionalValueKey.Text s)) (Some (ConditionalValueKey.Bool b)) h = differ h
  rank_shared (Some (ConditionalValueKey.Text s)) None h = differ h
  rank_shared (Some (ConditionalValueKey.Bool a)) (Some (ConditionalValueKey.Number b)) h = differ h
  rank_shared (Some (ConditionalValueKey.Bool a)) (Some (ConditionalValueKey.Text t)) h = differ h
  rank_shared (Some (ConditionalValueKey.Bool a)) (Some (ConditionalValueKey.Bool b)) h = ap (λ (c : Bool). cond c (2 ^ 64 - 1) (2 ^ 64 - 2) ∷ 3 ∷ []) (beq_equal a b h)
  rank_shared (Some (ConditionalValueKey.Bool a)) None h = differ h
  rank_shared None l h = differ h

  pub word_shared : (k l : Key) → same_key pool k l ≡ true → word_of pool k ≡ word_of pool l
  word_shared k l h = cc (rank_shared k l h)

  tag_shared : (k l : Key) → same_key pool k l ≡ true → tag_of k ≡ tag_of l
  tag_shared k l h = cc (rank_shared k l h)

  text_compared : (k l : Key) (s t : Span) → tag_of k ≡ 2 → tag_of l ≡ 2 → ((u : Span) → k ≡ Some (ConditionalValueKey.Text u) → u ≡ s)
      → ((u : Span) → l ≡ Some (ConditionalValueKey.Text u) → u ≡ t) → same_letters (text_at pool s) (text_at pool t) ≡ same_key pool k l
  unfolding tag_of same_key
  text_compared (Some (ConditionalValueKey.Text u)) (Some (ConditionalValueKey.Text v)) s t p q f g = rw (← f u refl, ← g v refl)
  text_compared (Some (ConditionalValueKey.Text u)) (Some (ConditionalValueKey.Number b)) s t p q f g = absurd (omega arith)
  text_compared (Some (ConditionalValueKey.Text u)) (Some (ConditionalValueKey.Bool b)) s t p q f g = absurd (omega arith)
  text_compared (Some (ConditionalValueKey.Text u)) None s t p q f g = absurd (omega arith)
  text_compared (Some (ConditionalValueKey.Number a)) l s t p q f g = absurd (omega arith)
  text_compared (Some (ConditionalValueKey.Bool a)) l s t p q f g = absurd (omega arith)
  text_compared None l s t p q f g = absurd (omega arith)

  bit_told : (a b : Bool) → ◌≡◌ {A = ℕ} (cond a (2 ^ 64 - 1) (2 ^ 64 - 2)) (cond b (2 ^ 64 - 1) (2 ^ 64 - 2)) → true ≡ beq a b
  bit_told true true h = refl
  bit_told true false h = absurd (omega arith)
  bit_told false true h = absurd (omega arith)
  bit_told false false h = refl

  -- besides texts, keys with one tag and one word are the same
  other_compared : (k l : Key) → word_of pool k ≡ word_of pool l → tag_of k ≡ tag_of l → (tag_of l ≡ 2 → ⊥) → has_key l ≡ true
      → true ≡ same_key pool k l
  unfolding tag_of word_of same_key has_key
  other_compared k (Some (ConditionalValueKey.Text t)) w e n h = absurd (n refl)
  other_compared k None w e n h = differ h
  other_compared (Some (ConditionalValueKey.Number a)) (Some (ConditionalValueKey.Number b)) w e n h = sym (eq-eqb a b w)
  other_compared (Some (ConditionalValueKey.Text s)) (Some (ConditionalValueKey.Number b)) w e n h = absurd (omega arith)
  other_compared (Some (ConditionalValueKey.Bool a)) (Some (ConditionalValueKey.Number b)) w e n h = absurd (omega arith)
  other_compared None (Some (ConditionalValueKey.Number b)) w e n h = absurd (omega arith)
  other_compared (Some (ConditionalValueKey.Number a)) (Some (ConditionalValueKey.Bool b)) w e n h = absurd (omega arith)
  other_compared (Some (ConditionalValueKey.Text s)) (Some (ConditionalValueKey.Bool b)) w e n h = absurd (omega arith)
  other_compared (Some (ConditionalValueKey.Bool a)) (Some (ConditionalValueKey.Bool b)) w e n h = bit_told a b w
  other_compared None (Some (ConditionalValueKey.Bool b)) w e n h = absurd (omega arith)

  module _ {tags words ats lens : List ℕ} {ks : List Key} (v : HeldBy pool tags words ats lens ks) where
    pub held_word : (i : ℕ) → get_or words i 0 ≡ word_of pool (get_or ks i None)
    unfolding word_of
    held_word i = rw v.worded (padded_at (word_of pool) refl ks i)

    pub held_tag : (i : ℕ) → get_or tags i 0 ≡ tag_of (get_or ks i None)
    unfolding tag_of
    held_tag i = rw v.tagged (padded_at tag_of refl ks i)

    pub held_span : (i : ℕ) (t : Span) → get_or ks i None ≡ Some (ConditionalValueKey.Text t) → t ≡ span_at ats lens i
    unfolding has_key
    held_span i t e = v.spanned i (keyed_within ks i (rw e)) t e

    module _ (i j : ℕ) where
      pub words_differ : (get_or words j 0 ≡ get_or words i 0 → ⊥) → false ≡ same_key pool (get_or ks j None) (get_or ks i None)
      words_differ n = not_so _ (λ h. n (held_word j ∙ word_shared _ _ h ∙ sym (held_word i)))

      pub tags_differ : (get_or tags j 0 ≡ get_or tags i 0 → ⊥) → false ≡ same_key pool (get_or ks j None) (get_or ks i None)
      tags_differ n = not_so _ (λ h. n (held_tag j ∙ tag_shared _ _ h ∙ sym (held_tag i)))

      pub texts_compared : get_or tags j 0 ≡ get_or tags i 0 → get_or tags i 0 ≡ 2
          → same_letters (text_at pool (span_at ats lens j)) (text_at pool (span_at ats lens i))
          ≡ same_key pool (get_or ks j None) (get_or ks i None)
      texts_compared e t = text_compared _ _ _ _ (sym (held_tag j) ∙ e ∙ t) (sym (held_tag i) ∙ t) (held_span j) (held_span i)

      -- a text is the same as one at its own place
      pub places_compared : span_at ats lens j ≡ span_at ats lens i → get_or tags j 0 ≡ get_or tags i 0 → get_or tags i 0 ≡ 2
          → true ≡ same_key pool (get_or ks j None) (get_or ks i None)
      places_compared p e t =
          sym (letters_same (text_at pool (span_at ats lens j)))
          ∙ ap (λ (s : Span). same_letters (text_at pool (span_at ats lens j)) (text_at pool s)) p
          ∙ texts_compared e t

      pub others_compared : get_or words j 0 ≡ get_or words i 0 → get_or tags j 0 ≡ get_or tags i 0 → (get_or tags i 0 ≡ 2 → ⊥)
          → has_key (get_or ks i None) ≡ true → true ≡ same_key pool (get_or ks j None) (get_or ks i None)
      others_compared w e n h =
          other_compared _ _ (sym (held_word j) ∙ w ∙ held_word i) (sym (held_tag j) ∙ e ∙ held_tag i) (λ t. n (held_tag i ∙ t)) h
