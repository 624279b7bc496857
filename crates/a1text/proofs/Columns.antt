-- Letters and numbers of columns are inverse: over all columns of a sheet, and for capital letters. Assumes nothing.
use Prim.Native.Nat.{ℕ, ◌+◌, ◌-◌, ◌*◌, ◌/◌, ◌%◌, ◌≤◌, ◌<◌}
use mathlib.Core.Path.{◌≡◌, refl, ◌∙◌}
use mathlib.Core.Bool.{Bool, true, false, ◌&&◌, and-eq-true_iff}
use mathlib.Core.List.{List, [], ◌∷◌}
use native.Mathlib.Omega.{arith}
use lib.Dec.{leb, ltb}
use borrow.Author.Tests.{lt-ltb, le-ltb, le-leb, ltb-true, ltb-false, leb-true}
use Rattle.model.specs.Readings.{every}
use Rattle.a1text.specs.Bytes.{is_capital, is_letter, raised}
use Rattle.a1text.specs.Columns.{columns, column_from, column_number, capitals, column_text, is_column}
use Rattle.a1text.proofs.Classes.{capital_range, capital_letter, letter_number, raised_capital, every_cons, every_two, every_none}

-- ---- the letters of a column: one, two or three

pub one_letter : (n : ℕ) → n < 26 → column_text n ≡ (65 + n) ∷ []
unfolding capitals
one_letter n h = rw (lt-ltb n 26 h)

pub two_letters : (n : ℕ) → 26 ≤ n → n < 702 → column_text n ≡ (64 + n / 26) ∷ (65 + n % 26) ∷ []
unfolding capitals
two_letters n g h =
    let e : 65 + (n / 26 - 1) ≡ 64 + n / 26 = omega arith in
    rw (le-ltb n 26 g, lt-ltb (n / 26 - 1) 26 (omega arith), e)

pub three_letters : (n : ℕ) → 702 ≤ n
    → column_text n ≡ (64 + (n / 26 - 1) / 26) ∷ (65 + (n / 26 - 1) % 26) ∷ (65 + n % 26) ∷ []
unfolding capitals
three_letters n h =
    let e : 65 + ((n / 26 - 1) / 26 - 1) ≡ 64 + (n / 26 - 1) / 26 = omega arith in
    rw (le-ltb n 26 (omega arith), le-ltb (n / 26 - 1) 26 (omega arith), e)

-- ---- their number

pub number_one : (a : ℕ) → a ≤ 90 → column_number (a ∷ []) ≡ a - 64
unfolding column_number column_from
number_one a h = rw (raised_capital a h) (omega arith)

pub number_two : (a b : ℕ) → a ≤ 90 → b ≤ 90 → column_number (a ∷ b ∷ []) ≡ (a - 64) * 26 + (b - 64)
unfolding column_number column_from
number_two a b g h = rw (raised_capital a g, raised_capital b h) (omega arith)

pub number_three : (a b c : ℕ) → a ≤ 90 → b ≤ 90 → c ≤ 90
    → column_number (a ∷ b ∷ c ∷ []) ≡ ((a - 64) * 26 + (b - 64)) * 26 + (c - 64)
unfolding column_number column_from
number_three a b c f g h = rw (raised_capital a f, raised_capital b g, raised_capital c h) (omega arith)

-- ---- from a number to letters and back

capital_is : (b : ℕ) → 65 ≤ b → b ≤ 90 → is_capital b ≡ true
unfolding is_capital
capital_is b g h = rw (le-leb 65 b g, le-leb b 90 h)

-- cs are capital letters that have the number m
pub record Lettered (cs : List ℕ) (m : ℕ) : Type 0 where
  pub number : column_number cs ≡ m
  pub capital : every is_capital cs ≡ true
  pub letter : every is_letter cs ≡ true

module _ (n : ℕ) where
  lettered_one : n < 26 → Lettered ((65 + n) ∷ []) (n + 1)
  lettered_one h =
      let low : 65 ≤ 65 + n = omega arith in
      let high : 65 + n ≤ 90 = omega arith in
      record {
        number = number_one (65 + n) high ∙ omega arith;
        capital = every_two is_capital _ [] (capital_is _ low high) (every_none is_capital);
        letter = every_two is_letter _ [] (capital_letter _ low high) (every_none is_letter);
      }

  lettered_two : 26 ≤ n → n < 702 → Lettered ((64 + n / 26) ∷ (65 + n % 26) ∷ []) (n + 1)
  lettered_two g h =
      let a : 65 ≤ 64 + n / 26 = omega arith in
      let b : 64 + n / 26 ≤ 90 = omega arith in
      let c : 65 ≤ 65 + n % 26 = omega arith in
      let d : 65 + n % 26 ≤ 90 = omega arith in
      record {
        number = number_two (64 + n / 26) (65 + n % 26) b d ∙ omega arith;
        capital = every_two is_capital _ _ (capital_is _ a b) (every_two is_capital _ [] (capital_is _ c d) (every_none is_capital));
        letter = every_two is_letter _ _ (capital_letter _ a b) (every_two is_letter _ [] (capital_letter _ c d) (every_none is_letter));
      }

  lettered_three : 702 ≤ n → n < columns
      → Lettered ((64 + (n / 26 - 1) / 26) ∷ (65 + (n / 26 - 1) % 26) ∷ (65 + n % 26) ∷ []) (n + 1)
  lettered_three g h =
      let m = n / 26 - 1 in
      let a : 65 ≤ 64 + m / 26 = omega arith in
      let b : 64 + m / 26 ≤ 90 = omega arith in
      let c : 65 ≤ 65 + m % 26 = omega arith in
      let d : 65 + m % 26 ≤ 90 = omega arith in
      let e : 65 ≤ 65 + n % 26 = omega arith in
      let f : 65 + n % 26 ≤ 90 = omega arith in
      record {
        number = number_three (64 + m / 26) (65 + m % 26) (65 + n % 26) b d f ∙ omega arith;
        capital = every_two is_capital _ _ (capital_is _ a b)
            (every_two is_capital _ _ (capital_is _ c d) (every_two is_capital _ [] (capital_is _ e f) (every_none is_capital)));
        letter = every_two is_letter _ _ (capital_letter _ a b)
            (every_two is_letter _ _ (capital_letter _ c d) (every_two is_letter _ [] (capital_letter _ e f) (every_none is_letter)));
      }

  -- from a number to letters and back
  pub column_lettered : n < columns → Lettered (column_text n) (n + 1)
  column_lettered h = go (ltb n 26) (ltb n 702) refl refl
    where
      go : (x y : Bool) → ltb n 26 ≡ x → ltb n 702 ≡ y → Lettered (column_text n) (n + 1)
      go true y e f = let g = ltb-true n 26 e in rw (one_letter n g) (lettered_one g)
      go false true e f =
          let g = ltb-false n 26 e in
          let k = ltb-true n 702 f in
          rw (two_letters n g k) (lettered_two g k)
      go false false e f = let g = ltb-false n 702 f in rw (three_letters n g) (lettered_three g h)

  pub column_text_is : n < columns → is_column (column_text n) ≡ true
  unfolding is_column
  column_text_is h =
      let l = column_lettered h in
      rw (l.letter, l.number, le-leb 1 (n + 1) (omega arith), le-leb (n + 1) columns (omega arith))

-- ---- from capital letters to a number and back

-- letters that follow count on
pub column_more : (n : ℕ) (cs : List ℕ) → n ≤ column_from n cs
unfolding column_from
column_more n [] = omega arith
column_more n (c ∷ cs) = let h = column_more (n * 26 + (raised c - 64)) cs in omega arith

-- what `is_column` tells
pub record Column (cs : List ℕ) : Type 0 where
  pub letter : every is_letter cs ≡ true
  pub low : 1 ≤ column_number cs
  pub high : column_number cs ≤ columns

pub column_is : (cs : List ℕ) → is_column cs ≡ true → Column cs
unfolding is_column
column_is cs e =
    let h = (and-eq-true_iff (every is_letter cs && leb 1 (column_number cs)) (leb (column_number cs) columns)).0 e in
    let g = (and-eq-true_iff (every is_letter cs) (leb 1 (column_number cs))).0 h.0 in
    record { letter = g.0; low = leb-true _ _ g.1; high = leb-true _ _ h.1 }

module _ (a b c d : ℕ) (cs : List ℕ) where
  -- four letters are too many
  four_letters : every is_letter (a ∷ b ∷ c ∷ d ∷ cs) ≡ true → column_number (a ∷ b ∷ c ∷ d ∷ cs) ≤ columns → ⊥
  unfolding column_number column_from
  four_letters e h =
      let f = every_cons is_letter a _ e in
      let g = every_cons is_letter b _ f.1 in
      let i = every_cons is_letter c _ g.1 in
      let j = every_cons is_letter d _ i.1 in
      omega (
        arith,
        (letter_number a f.0).0,
        (letter_number b g.0).0,
        (letter_number c i.0).0,
        (letter_number d j.0).0,
        column_more ((((0 * 26 + (raised a - 64)) * 26 + (raised b - 64)) * 26 + (raised c - 64)) * 26 + (raised d - 64)) cs,
      )

no_letters : 1 ≤ column_number [] → ⊥
unfolding column_number column_from
no_letters h = omega arith

module _ (a b c : ℕ) (low : 65 ≤ a) (high : a ≤ 90) where
  text_of_one : column_text (column_number (a ∷ []) - 1) ≡ a ∷ []
  text_of_one =
      let n : column_number (a ∷ []) - 1 ≡ a - 65 = omega (arith, number_one a high) in
      let x : 65 + (a - 65) ≡ a = omega arith in
      rw n (one_letter (a - 65) (omega arith) ∙ rw x)

  module _ (low2 : 65 ≤ b) (high2 : b ≤ 90) where
    text_of_two : column_text (column_number (a ∷ b ∷ []) - 1) ≡ a ∷ b ∷ []
    text_of_two =
        let n : column_number (a ∷ b ∷ []) - 1 ≡ (a - 64) * 26 + (b - 65) = omega (arith, number_two a b high high2) in
        let x : 64 + ((a - 64) * 26 + (b - 65)) / 26 ≡ a = omega arith in
        let y : 65 + ((a - 64) * 26 + (b - 65)) % 26 ≡ b = omega arith in
        rw n (two_letters ((a - 64) * 26 + (b - 65)) (omega arith) (omega arith) ∙ rw (x, y))

    module _ (low3 : 65 ≤ c) (high3 : c ≤ 90) where
      abbrev ahead : ℕ
      ahead = ((a - 64) * 26 + (b - 64)) * 26 + (c - 65)

      text_of_three : column_text (column_number (a ∷ b ∷ c ∷ []) - 1) ≡ a ∷ b ∷ c ∷ []
      text_of_three =
          let n : column_number (a ∷ b ∷ c ∷ []) - 1 ≡ ahead = omega (arith, number_three a b c high high2 high3) in
          let k : ahead / 26 - 1 ≡ (a - 64) * 26 + (b - 65) = omega arith in
          let x : 64 + ((a - 64) * 26 + (b - 65)) / 26 ≡ a = omega arith in
          let y : 65 + ((a - 64) * 26 + (b - 65)) % 26 ≡ b = omega arith in
          let z : 65 + ahead % 26 ≡ c = omega arith in
          rw n (three_letters ahead (omega arith) ∙ rw (k, x, y, z))

-- the range of the first letter, and the rest
first_capital : (a : ℕ) (cs : List ℕ) → every is_capital (a ∷ cs) ≡ true → (65 ≤ a) × (a ≤ 90) × (every is_capital cs ≡ true)
first_capital a cs e = let h = every_cons is_capital a cs e in let r = capital_range a h.0 in (r.0, r.1, h.1)

pub text_of_number : (cs : List ℕ) → every is_capital cs ≡ true → is_column cs ≡ true → column_text (column_number cs - 1) ≡ cs
text_of_number [] e f = absurd (no_letters (column_is [] f).low)
text_of_number (a ∷ []) e f = let h = first_capital a [] e in text_of_one a 0 0 h.0 h.1
text_of_number (a ∷ (b ∷ [])) e f =
    let h = first_capital a (b ∷ []) e in
    let g = first_capital b [] h.2 in
    text_of_two a b 0 h.0 h.1 g.0 g.1
text_of_number (a ∷ (b ∷ (c ∷ []))) e f =
    let h = first_capital a (b ∷ c ∷ []) e in
    let g = first_capital b (c ∷ []) h.2 in
    let k = first_capital c [] g.2 in
    text_of_three a b c h.0 h.1 g.0 g.1 k.0 k.1
text_of_number (a ∷ (b ∷ (c ∷ (d ∷ cs)))) e f = let k = column_is _ f in absurd (four_letters a b c d cs k.letter k.high)
