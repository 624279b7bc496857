-- What the tests on bytes tell of a byte. Assumes nothing.
use Prim.Native.Nat.{ℕ, ◌-◌, ◌≤◌, ◌<◌}
use mathlib.Core.Path.{◌≡◌, refl}
use mathlib.Core.Logic.{◌⊎◌, inl, inr}
use mathlib.Core.Bool.{Bool, true, false, ◌&&◌, ◌||◌, and-eq-true_iff}
use mathlib.Core.List.{List, [], ◌∷◌, ◌++◌}
use native.Mathlib.Omega.{arith}
use lib.Dec.{leb, eqb}
use borrow.Author.Tests.{leb-true, eqb-true, le-leb, lt-leb, le-ltb, ne_eqb}
use Rattle.model.specs.Readings.{every}
use Rattle.a1text.specs.Bytes.{is_capital, is_small, is_letter, is_digit, is_word_byte, is_printable, raised}

pub either_true : (a b : Bool) → (a || b) ≡ true → (a ≡ true) ⊎ (b ≡ true)
either_true true b e = inl refl
either_true false b e = inr e

-- ---- a byte between two others

module _ (a z b : ℕ) where
  pub between_true : leb a b && leb b z ≡ true → (a ≤ b) × (b ≤ z)
  between_true e = let h = (and-eq-true_iff (leb a b) (leb b z)).0 e in (leb-true a b h.0, leb-true b z h.1)

  pub true_between : a ≤ b → b ≤ z → leb a b && leb b z ≡ true
  true_between g h = rw (le-leb a b g, le-leb b z h)

  pub below_between : b < a → leb a b && leb b z ≡ false
  below_between h = rw (lt-leb a b h)

-- ---- letters

pub capital_range : (b : ℕ) → is_capital b ≡ true → (65 ≤ b) × (b ≤ 90)
unfolding is_capital
capital_range b e = between_true 65 90 b e

-- a letter is a capital or a small one
pub letter_cases : (b : ℕ) → is_letter b ≡ true → ((65 ≤ b) × (b ≤ 90)) ⊎ ((97 ≤ b) × (b ≤ 122))
unfolding is_letter is_capital is_small
letter_cases b e = go (either_true (leb 65 b && leb b 90) (leb 97 b && leb b 122) e)
  where
    go : (leb 65 b && leb b 90 ≡ true) ⊎ (leb 97 b && leb b 122 ≡ true) → ((65 ≤ b) × (b ≤ 90)) ⊎ ((97 ≤ b) × (b ≤ 122))
    go (inl h) = inl (between_true 65 90 b h)
    go (inr h) = inr (between_true 97 122 b h)

pub letter_range : (b : ℕ) → is_letter b ≡ true → (65 ≤ b) × (b ≤ 122)
letter_range b e = go (letter_cases b e)
  where
    go : ((65 ≤ b) × (b ≤ 90)) ⊎ ((97 ≤ b) × (b ≤ 122)) → (65 ≤ b) × (b ≤ 122)
    go (inl h) = (h.0, omega (arith, h.1))
    go (inr h) = (omega (arith, h.0), h.1)

pub capital_letter : (b : ℕ) → 65 ≤ b → b ≤ 90 → is_letter b ≡ true
unfolding is_letter is_capital
capital_letter b g h = rw (true_between 65 90 b g h)

-- a letter counts from 1 to 26
pub letter_number : (b : ℕ) → is_letter b ≡ true → (1 ≤ raised b - 64) × (raised b - 64 ≤ 26)
unfolding raised is_small
letter_number b e = go (letter_cases b e)
  where
    go : ((65 ≤ b) × (b ≤ 90)) ⊎ ((97 ≤ b) × (b ≤ 122)) → (1 ≤ raised b - 64) × (raised b - 64 ≤ 26)
    go (inl h) = rw (below_between 97 122 b (omega (arith, h.1))) (omega (arith, h.0), omega (arith, h.1))
    go (inr h) = rw (true_between 97 122 b h.0 h.1) (omega (arith, h.0), omega (arith, h.1))

pub raised_capital : (b : ℕ) → b ≤ 90 → raised b ≡ b
unfolding raised is_small
raised_capital b h = rw (below_between 97 122 b (omega arith))

-- ---- bytes of a word

pub digit_range : (b : ℕ) → is_digit b ≡ true → (48 ≤ b) × (b ≤ 57)
unfolding is_digit
digit_range b e = between_true 48 57 b e

pub letter_word : (b : ℕ) → is_letter b ≡ true → is_word_byte b ≡ true
unfolding is_word_byte
letter_word b e = rw e

pub word_range : (b : ℕ) → is_word_byte b ≡ true → (48 ≤ b) × (b ≤ 122)
unfolding is_word_byte
word_range b e = go (either_true (is_letter b || is_digit b) (eqb b 95) e)
  where
    more : (is_letter b ≡ true) ⊎ (is_digit b ≡ true) → (48 ≤ b) × (b ≤ 122)
    more (inl h) = let r = letter_range b h in (omega (arith, r.0), r.1)
    more (inr h) = let r = digit_range b h in (r.0, omega (arith, r.1))

    go : (is_letter b || is_digit b ≡ true) ⊎ (eqb b 95 ≡ true) → (48 ≤ b) × (b ≤ 122)
    go (inl h) = more (either_true (is_letter b) (is_digit b) h)
    go (inr h) = let r = eqb-true b 95 h in (omega arith, omega arith)

-- `!` is none
pub exclamation_no_word : is_word_byte 33 ≡ false
unfolding is_word_byte is_letter is_capital is_small is_digit
exclamation_no_word = refl

pub word_printable : (b : ℕ) → is_word_byte b ≡ true → is_printable b ≡ true
unfolding is_printable
word_printable b e =
    let r = word_range b e in
    let low = r.0 in
    let high = r.1 in
    rw (le-ltb b 32 (omega arith), ne_eqb b 127 (λ x. omega arith))

-- ---- all bytes of a list

pub every_weaker : (p q : ℕ → Bool) → ((b : ℕ) → p b ≡ true → q b ≡ true) → (bs : List ℕ) → every p bs ≡ true → every q bs ≡ true
unfolding every
every_weaker p q f [] e = refl
every_weaker p q f (b ∷ bs) e =
    let h = (and-eq-true_iff (p b) (every p bs)).0 e in
    (and-eq-true_iff (q b) (every q bs)).1 (f b h.0, every_weaker p q f bs h.1)

pub every_append : (p : ℕ → Bool) (xs ys : List ℕ) → every p xs ≡ true → every p ys ≡ true → every p (xs ++ ys) ≡ true
unfolding every
every_append p [] ys e f = f
every_append p (x ∷ xs) ys e f =
    let h = (and-eq-true_iff (p x) (every p xs)).0 e in
    (and-eq-true_iff (p x) (every p (xs ++ ys))).1 (h.0, every_append p xs ys h.1 f)

pub every_cons : (p : ℕ → Bool) (x : ℕ) (xs : List ℕ) → every p (x ∷ xs) ≡ true → (p x ≡ true) × (every p xs ≡ true)
unfolding every
every_cons p x xs e = (and-eq-true_iff (p x) (every p xs)).0 e

pub every_two : (p : ℕ → Bool) (x : ℕ) (xs : List ℕ) → p x ≡ true → every p xs ≡ true → every p (x ∷ xs) ≡ true
unfolding every
every_two p x xs e f = (and-eq-true_iff (p x) (every p xs)).1 (e, f)

pub every_none : (p : ℕ → Bool) → every p [] ≡ true
unfolding every
every_none p = refl

-- ---- a byte below the letters

pub letter_low : (b : ℕ) → b < 65 → false ≡ is_letter b
unfolding is_letter is_capital is_small
letter_low b h = rw (lt-leb 65 b h, lt-leb 97 b (omega arith))
