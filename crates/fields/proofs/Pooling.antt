-- Texts stored in a pool: the bytes of pairs of digits are those that the grammar reads, and storing them one by one. Assumes nothing.
use Prim.Native.Nat.{ℕ, zero, suc, ◌+◌, ◌*◌, ◌/◌, ◌%◌, ◌≤◌, ◌<◌}
use mathlib.Core.Path.{◌≡◌, refl, sym, ap, ◌∙◌}
use mathlib.Core.Bool.{true, false}
use Rattle.std.specs.Prelude.{Ok}
use Rattle.std.proofs.Common.{zero-add}
use mathlib.Core.List.{List, [], ◌∷◌, ◌++◌, append_assoc}
use native.Mathlib.Omega.{arith}
use lib.Dec.{leb}
use lib.ListN.{length, drop, get_or, set, replicate, length-append, length-drop}
use lib.Seq.{sets}
use borrow.Author.Tests.{leb-false}
use Rattle.memory.specs.Memory.{fits}
use Rattle.memory.proofs.Laws.{all_fits, all_over, sets_append}
use Rattle.fields.specs.declared.Pairs.{Pairs}
use Rattle.fields.specs.Field.{counted, text_of, pooled, pair_bytes}
use Rattle.grammar.specs.Gram.{Got}
use Rattle.grammar.specs.Gram.Got.{got, bad}
use Rattle.grammar.specs.Numbers.{hex_digit, digit_value, pairs_text, are_bytes, pairs_from}
use Rattle.grammar.proofs.Places.{past, at_head}
use Rattle.grammar.proofs.Hexadecimals.{value_digit}
use Rattle.grammar.proofs.Pairs.{length_pairs, pairs_got}

-- the bytes of one pair more, behind those of k
pair_bytes_more : (k : ℕ) (s : List ℕ) (at : ℕ) → pair_bytes (k + 1) s at
    ≡ pair_bytes k s at ++ ((digit_value (get_or s (at + 2 * k) 0) * 16 + digit_value (get_or s (at + 2 * k + 1) 0)) % 256 ∷ [])
unfolding pair_bytes
pair_bytes_more zero s at = let e : at + 2 * 0 ≡ at = omega arith in rw e
pair_bytes_more (suc k) s at =
    let e : at + 2 + 2 * k ≡ at + 2 * suc k = omega arith in
    let f : suc k + 1 ≡ suc (k + 1) = omega arith in
    let h = rw e at (pair_bytes_more k s (at + 2)) in
    rw f (ap (λ (l : List ℕ). (digit_value (get_or s at 0) * 16 + digit_value (get_or s (at + 1) 0)) % 256 ∷ l) h)

length_pair_bytes : (k : ℕ) (s : List ℕ) (at : ℕ) → length (pair_bytes k s at) ≡ k
unfolding pair_bytes
length_pair_bytes zero s at = refl
length_pair_bytes (suc k) s at = ap suc (length_pair_bytes k s (at + 2))

pub decoded_none : (s pool : List ℕ) (at used : ℕ) → pool ≡ sets pool used (pair_bytes 0 s at)
unfolding pair_bytes
decoded_none s pool at used = refl

-- storing one byte more
pub decoded_more : (s pool₀ pool : List ℕ) (at used k : ℕ) {b : ℕ} → pool ≡ sets pool₀ used (pair_bytes k s at)
    → b ≡ (digit_value (get_or s (at + 2 * k) 0) * 16 + digit_value (get_or s (at + 2 * k + 1) 0)) % 256
    → set pool (used + k) b ≡ sets pool₀ used (pair_bytes (k + 1) s at)
decoded_more s pool₀ pool at used k {b} e f =
    rw (e, f, pair_bytes_more k s at) (sym (one ((digit_value (get_or s (at + 2 * k) 0) * 16 + digit_value (get_or s (at + 2 * k + 1) 0)) % 256) (pair_bytes k s at) (length_pair_bytes k s at)))
  where
    one : (b₁ : ℕ) (bs : List ℕ) → length bs ≡ k → sets pool₀ used (bs ++ (b₁ ∷ [])) ≡ set (sets pool₀ used bs) (used + k) b₁
    one b₁ bs h = sets_append pool₀ used bs (b₁ ∷ []) ∙ ap (λ (n : ℕ). set (sets pool₀ used bs) (used + n) b₁) h

-- ---- the bytes that the grammar reads

pairs_next : (k : ℕ) (s : List ℕ) (at b : ℕ) (bs : List ℕ) → (digit_value (get_or s at 0) * 16 + digit_value (get_or s (at + 1) 0)) % 256 ≡ b
    → pair_bytes k s (at + 2) ≡ bs → pair_bytes (suc k) s at ≡ b ∷ bs
unfolding pair_bytes
pairs_next k s at b bs e f = rw (e, f)

-- bytes that stand as pairs of digits from a place on
pub pairs_are : (bs t s : List ℕ) (at : ℕ) → are_bytes bs → drop at s ≡ pairs_text bs ++ t → pair_bytes (length bs) s at ≡ bs
unfolding pair_bytes pairs_text
pairs_are [] t s at o e = refl
pairs_are (b ∷ bs) t s at o e =
    let hi = hex_digit (b / 16) in
    let lo = hex_digit (b % 16) in
    let e1 : drop (at + 1) s ≡ lo ∷ (pairs_text bs ++ t) = past s (hi ∷ []) (lo ∷ (pairs_text bs ++ t)) at e in
    let e2 : drop (at + 2) s ≡ pairs_text bs ++ t = past s (hi ∷ lo ∷ []) (pairs_text bs ++ t) at e in
    let v : (digit_value hi * 16 + digit_value lo) % 256 ≡ b =
    rw (value_digit (b / 16) (omega (arith, o.0)), value_digit (b % 16) (omega arith)) (omega (arith, o.0)) in
    pairs_next (length bs) s at b bs (rw (at_head s (lo ∷ (pairs_text bs ++ t)) at hi e, at_head s (pairs_text bs ++ t) (at + 1) lo e1) v)
    (pairs_are bs t s (at + 2) o.1 e2)

module _ (end : ℕ) (s : List ℕ) (at : ℕ) where
  text_bytes : (bs : List ℕ) (q : ℕ) → pairs_from end at (drop at s) ≡ got bs q → pair_bytes (length bs) s at ≡ bs
  text_bytes bs q e =
      let r = pairs_got end at (drop at s) bs q e in
      pairs_are bs ((end ∷ []) ++ r.rest) s at r.ok (r.split ∙ append_assoc (pairs_text bs) (end ∷ []) r.rest)

  pub text_inside : (bs : List ℕ) (q : ℕ) → pairs_from end at (drop at s) ≡ got bs q → at + length bs * 2 ≤ length s
  text_inside bs q e =
      let r = pairs_got end at (drop at s) bs q e in
      let h = length_pairs bs in
      let l = sym (length-drop at s) ∙ ap length r.split in
      omega (arith, simp length-append at l)

  -- what the count says of the text
  module _ {f : Pairs} where
    pub text_room : Ok f ≡ counted 0 (pairs_from end at (drop at s)) → at + f.number * 2 ≤ length s
    text_room e = go (pairs_from end at (drop at s)) refl e
      where
        go : (g : Got (List ℕ)) → pairs_from end at (drop at s) ≡ g → Ok f ≡ counted 0 g → at + f.number * 2 ≤ length s
        go (got bs q) h d =
            let k : f ≡ record { number = 0 + length bs; next = q } = cc in
            let i = text_inside bs q h in
            rw k (omega arith)
        go (bad p) h d = cc

    pub text_told : (used size : ℕ) → Ok f ≡ counted 0 (pairs_from end at (drop at s))
        → Ok (record { fits = fits size used f.number; length = f.number; next = f.next }) ≡ text_of (pairs_from end at (drop at s)) used size
    text_told used size e = go (pairs_from end at (drop at s)) e
      where
        go : (g : Got (List ℕ)) → Ok f ≡ counted 0 g
            → Ok (record { fits = fits size used f.number; length = f.number; next = f.next }) ≡ text_of g used size
        go (got bs q) d = let k : f ≡ record { number = 0 + length bs; next = q } = cc in rw (k, zero-add (length bs))
        go (bad p) d = cc

    pub text_stored : (pool : List ℕ) (used : ℕ) → Ok f ≡ counted 0 (pairs_from end at (drop at s)) → used + f.number ≤ length pool
        → sets pool used (pair_bytes f.number s at) ≡ pooled (pairs_from end at (drop at s)) used pool
    text_stored pool used e l = go (pairs_from end at (drop at s)) refl e
      where
        go : (g : Got (List ℕ)) → pairs_from end at (drop at s) ≡ g → Ok f ≡ counted 0 g
            → sets pool used (pair_bytes f.number s at) ≡ pooled g used pool
        go (got bs q) h d =
            let k : f ≡ record { number = 0 + length bs; next = q } = cc in
            let v : f.number ≡ length bs = ap (λ (y : Pairs). y.number) k ∙ zero-add (length bs) in
            ap (λ (l : List ℕ). sets pool used l) (ap (λ (n : ℕ). pair_bytes n s at) v ∙ text_bytes bs q h)
            ∙ sym (all_fits 0 pool used bs (omega arith))
        go (bad p) h d = cc

    pub text_unstored : (pool : List ℕ) (used : ℕ) → Ok f ≡ counted 0 (pairs_from end at (drop at s))
        → fits (length pool) used f.number ≡ false
        → replicate (length pool) 0 ≡ pooled (pairs_from end at (drop at s)) used pool
    text_unstored pool used e x = go (pairs_from end at (drop at s)) e
      where
        go : (g : Got (List ℕ)) → Ok f ≡ counted 0 g → replicate (length pool) 0 ≡ pooled g used pool
        go (got bs q) d =
            let k : f ≡ record { number = 0 + length bs; next = q } = cc in
            let y : leb (used + (0 + length bs)) (length pool) ≡ false = rw k at x in
            let o : length pool < used + (0 + length bs) = leb-false _ _ y in
            sym (all_over 0 pool used bs true (omega arith))
        go (bad p) d = cc

-- what is stored, for the search
pub ruleset stored = (decoded_none, decoded_more, text_room, text_stored, text_unstored)
