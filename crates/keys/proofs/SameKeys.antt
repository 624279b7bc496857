-- Keys that are the same: each is the same as itself, and two that are the same are the same as the same keys. Assumes nothing.
use Rattle.std.specs.Prelude.{Some, None}
use Prim.Native.Nat.{ℕ}
use mathlib.Core.Path.{◌≡◌, refl, sym, ap, ◌∙◌}
use mathlib.Core.Bool.{Bool, true, false, ◌&&◌, beq}
use mathlib.Core.List.{List, [], ◌∷◌, map}
use native.Mathlib.Omega.{arith}
use lib.Dec.{eqb}
use borrow.Author.Tests.{eqb-true, eq-eqb}
use Rattle.model.specs.Options.{Key}
use Rattle.model.specs.declared.ConditionalValueKey.{ConditionalValueKey}
use Rattle.model.specs.declared.Span.{Span}
use Rattle.model.specs.Sheet.{text_at}
use Rattle.model.specs.Readings.{lower, same_bytes, same_letters, same_key, has_key}

pub differ : {A : Type 0} → false ≡ true → A
differ h = absurd (let z : ◌≡◌ {A = ℕ} 0 1 = cc in omega arith)

pub not_so : (b : Bool) → (b ≡ true → ⊥) → false ≡ b
not_so true h = absurd (h refl)
not_so false h = refl

-- ---- bytes

pub and_first : (a b : Bool) → a && b ≡ true → a ≡ true
and_first true b h = refl
and_first false b h = h

pub and_second : (a b : Bool) → a && b ≡ true → b ≡ true
and_second true b h = h
and_second false b h = differ h

bytes_equal : (xs ys : List ℕ) → same_bytes xs ys ≡ true → xs ≡ ys
unfolding same_bytes
bytes_equal [] [] h = refl
bytes_equal [] (y ∷ ys) h = differ h
bytes_equal (x ∷ xs) [] h = differ h
bytes_equal (x ∷ xs) (y ∷ ys) h =
    let first : x ≡ y = eqb-true x y (and_first _ _ h) in
    let later : xs ≡ ys = bytes_equal xs ys (and_second (eqb x y) _ h) in
    cc

bytes_same : (xs : List ℕ) → same_bytes xs xs ≡ true
unfolding same_bytes
bytes_same [] = refl
bytes_same (x ∷ xs) = rw (eq-eqb x x refl, bytes_same xs)

pub letters_equal : (xs ys : List ℕ) → same_letters xs ys ≡ true → map lower xs ≡ map lower ys
unfolding same_letters
letters_equal xs ys h = bytes_equal (map lower xs) (map lower ys) h

pub letters_same : (xs : List ℕ) → same_letters xs xs ≡ true
unfolding same_letters
letters_same xs = bytes_same (map lower xs)

-- ---- keys

pub beq_equal : (a b : Bool) → beq a b ≡ true → a ≡ b
beq_equal true true h = refl
beq_equal true false h = differ h
beq_equal false true h = differ h
beq_equal false false h = refl

module _ (pool : List ℕ) where
  text_swap : (s t : Span) → same_letters (text_at pool s) (text_at pool t) ≡ true → (m : Key)
      → same_key pool m (Some (ConditionalValueKey.Text s)) ≡ same_key pool m (Some (ConditionalValueKey.Text t))
  unfolding same_key same_letters
  text_swap s t h (Some (ConditionalValueKey.Number a)) = refl
  text_swap s t h (Some (ConditionalValueKey.Text u)) = ap (same_bytes (map lower (text_at pool u))) (letters_equal (text_at pool s) (text_at pool t) h)
  text_swap s t h (Some (ConditionalValueKey.Bool b)) = refl
  text_swap s t h None = refl

  pub key_swap : (k l m : Key) → same_key pool k l ≡ true → same_key pool m k ≡ same_key pool m l
  unfolding same_key
  key_swap (Some (ConditionalValueKey.Number a)) (Some (ConditionalValueKey.Number b)) m h = ap (λ (n : ℕ). same_key pool m (Some (ConditionalValueKey.Number n))) (eqb-true a b h)
  key_swap (Some (ConditionalValueKey.Number a)) (Some (ConditionalValueKey.Text t)) m h = differ h
  key_swap (Some (ConditionalValueKey.Number a)) (Some (ConditionalValueKey.Bool b)) m h = differ h
  key_swap (Some (ConditionalValueKey.Number a)) None m h = differ h
  key_swap (Some (ConditionalValueKey.Text s)) (Some (ConditionalValueKey.Number b)) m h = differ h
  key_swap (Some (ConditionalValueKey.Text s)) (Some (ConditionalValueKey.Text t)) m h = text_swap s t h m
  key_swap (Some (ConditionalValueKey.Text s)) (Some (ConditionalValueKey.Bool b)) m h = differ h
  key_swap (Some (ConditionalValueKey.Text s)) None m h = differ h
  key_swap (Some (ConditionalValueKey.Bool a)) (Some (ConditionalValueKey.Number b)) m h = differ h
  key_swap (Some (ConditionalValueKey.Bool a)) (Some (ConditionalValueKey.Text t)) m h = differ h
  key_swap (Some (ConditionalValueKey.Bool a)) (Some (ConditionalValueKey.Bool b)) m h = ap (λ (c : Bool). same_key pool m (Some (ConditionalValueKey.Bool c))) (beq_equal a b h)
  key_swap (Some (ConditionalValueKey.Bool a)) None m h = differ h
  key_swap None l m h = differ h

  beq_same : (a : Bool) → beq a a ≡ true
  beq_same true = refl
  beq_same false = refl

  pub key_itself : (k : Key) → has_key k ≡ true → same_key pool k k ≡ true
  unfolding same_key has_key
  key_itself (Some (ConditionalValueKey.Number a)) h = eq-eqb a a refl
  key_itself (Some (ConditionalValueKey.Text t)) h = letters_same (text_at pool t)
  key_itself (Some (ConditionalValueKey.Bool b)) h = beq_same b
  key_itself None h = differ h

  pub no_key_differs : (k : Key) → same_key pool k None ≡ false
  unfolding same_key
  no_key_differs (Some (ConditionalValueKey.Number a)) = refl
  no_key_differs (Some (ConditionalValueKey.Text t)) = refl
  no_key_differs (Some (ConditionalValueKey.Bool b)) = refl
  no_key_differs None = refl

  pub second_keyed : (k l : Key) → same_key pool k l ≡ true → has_key l ≡ true
  unfolding same_key has_key
  second_keyed k (Some (ConditionalValueKey.Number b)) h = refl
  second_keyed k (Some (ConditionalValueKey.Text t)) h = refl
  second_keyed k (Some (ConditionalValueKey.Bool b)) h = refl
  second_keyed (Some (ConditionalValueKey.Number a)) None h = h
  second_keyed (Some (ConditionalValueKey.Text t)) None h = h
  second_keyed (Some (ConditionalValueKey.Bool b)) None h = h
  second_keyed None None h = h

  pub key_turned : (k l : Key) → same_key pool k l ≡ true → same_key pool l k ≡ true
  key_turned k l h = key_swap k l l h ∙ key_itself l (second_keyed k l h)

  -- two that are the same as a third
  pub key_joined : (m k l : Key) → same_key pool m k ≡ true → same_key pool m l ≡ true → same_key pool k l ≡ true
  key_joined m k l p q = sym (key_swap m l k q) ∙ key_turned m k p
