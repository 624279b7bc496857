-- Columns filled from the front: the tags and the words of the keys, and their names. Assumes nothing.
use Rattle.std.specs.Prelude.{Some, None}
use Prim.Native.Nat.{ℕ, suc, ◌+◌, ◌-◌, ◌≤◌, ◌<◌}
use mathlib.Core.Path.{◌≡◌, refl, sym, ap, ◌∙◌}
use mathlib.Core.List.{List, ◌∷◌, ◌++◌, map, append_assoc}
use native.Mathlib.Numerals.{add-one}
use native.Mathlib.Omega.{arith}
use lib.ListN.{length, get_or, take, set, replicate, length-map}
use lib.Seq.{take-suc, take_all, set_at, length-take-le}
use Rattle.model.specs.Options.{Key}
use Rattle.model.specs.declared.ConditionalValueKey.{ConditionalValueKey}
use Rattle.model.specs.declared.Span.{Span}
use Rattle.model.specs.Readings.{has_key}
use Rattle.keys.specs.Names.{name_of, padded, names_of}
use Rattle.keys.specs.Held.{tag_of, word_of, span_at, HeldBy}
use Rattle.keys.proofs.Naming.{mapped_at, name_none}

-- ---- a column filled from the front

pub record Filled (xs a : List ℕ) (i : ℕ) : Type 0 where
  pub filled : a ≡ take i xs ++ replicate (1024 - i) 0

module _ {xs : List ℕ} where
  pub filled_begun : Filled xs (replicate 1024 0) 0
  filled_begun = record { filled = refl }

  module _ {a : List ℕ} {i : ℕ} (v : Filled xs a i) where
    pub filled_more : {x : ℕ} → i < length xs → i < 1024 → x ≡ get_or xs i 0 → Filled xs (set a i x) (i + 1)
    filled_more {x} h k e =
        let more : 1024 - i ≡ suc (1024 - (i + 1)) = omega arith in
        let stored : set a i x ≡ take i xs ++ x ∷ replicate (1024 - (i + 1)) 0 =
        ap (λ (l : List ℕ). set l i x) (rw more at v.filled) ∙ set_at (take i xs) 0 _ x i (length-take-le i xs (omega arith)) in
        record { filled = stored ∙ rw (add-one, take-suc xs i 0, append_assoc, e) }

    filled_ended : i ≡ length xs → a ≡ padded xs
    filled_ended e = v.filled ∙ rw (take_all i xs (omega arith), e)

-- ---- both columns

pub record Holding (pool : List ℕ) (ks : List Key) (tags words : List ℕ) (i : ℕ) : Type 0 where
  pub tagged : Filled (map tag_of ks) tags i
  pub worded : Filled (map (word_of pool) ks) words i
  pub within : i ≤ length ks

module _ {pool : List ℕ} {ks : List Key} where
  pub holding_begun : {tags words : List ℕ} → tags ≡ replicate 1024 0 → words ≡ replicate 1024 0 → Holding pool ks tags words 0
  holding_begun t w = record { tagged = rw t filled_begun; worded = rw w filled_begun; within = omega arith }

  module _ {tags words : List ℕ} {i : ℕ} (v : Holding pool ks tags words i) where
    pub holding_more : {k : Key} {t w : ℕ} → i < length ks → i < 1024 → k ≡ get_or ks i None → t ≡ tag_of k → w ≡ word_of pool k
        → Holding pool ks (set tags i t) (set words i w) (i + 1)
    unfolding tag_of word_of
    holding_more h b e t w =
        record {
          tagged = filled_more v.tagged (rw length-map h) b (t ∙ ap tag_of e ∙ sym (mapped_at tag_of refl ks i));
          worded = filled_more v.worded (rw length-map h) b (w ∙ ap (word_of pool) e ∙ sym (mapped_at (word_of pool) refl ks i));
          within = omega arith;
        }

    module _ (h : length ks ≤ i) where
      all : i ≡ length ks
      all = omega (arith, v.within)

      tags_ended : tags ≡ padded (map tag_of ks)
      tags_ended = filled_ended v.tagged (rw length-map all)

      words_ended : words ≡ padded (map (word_of pool) ks)
      words_ended = filled_ended v.worded (rw length-map all)

      pub holding_held : {ats lens : List ℕ}
          → ((j : ℕ) → j < length ks → (t : Span) → get_or ks j None ≡ Some (ConditionalValueKey.Text t) → t ≡ span_at ats lens j)
          → HeldBy pool tags words ats lens ks
      holding_held s = record { tagged = tags_ended; worded = words_ended; spanned = s }

-- ---- the names

pub record Named (pool : List ℕ) (ks : List Key) (names : List ℕ) (i : ℕ) : Type 0 where
  pub filled : Filled (map (name_of pool ks) ks) names i
  pub within : i ≤ length ks

module _ {pool : List ℕ} {ks : List Key} where
  pub named_begun : Named pool ks (replicate 1024 0) 0
  named_begun = record { filled = filled_begun; within = omega arith }

  module _ {names : List ℕ} {i : ℕ} (v : Named pool ks names i) where
    pub named_more : {x : ℕ} → i < length ks → i < 1024 → x ≡ name_of pool ks (get_or ks i None) → Named pool ks (set names i x) (i + 1)
    unfolding has_key
    named_more h b e =
        record {
          filled =
              filled_more v.filled (rw length-map h) b
              (e ∙ sym (mapped_at (name_of pool ks) (name_none pool ks None refl) ks i));
          within = omega arith;
        }

    pub named_ended : length ks ≤ i → names ≡ names_of pool ks
    named_ended h =
        let all : i ≡ length ks = omega (arith, v.within) in
        filled_ended v.filled (rw length-map all)
