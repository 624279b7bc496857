-- What std's calls answer over bytes, in the words of the definitions. Assumes nothing.
use Rattle.std.proofs.Common.{◌≡◌, ℕ, Bool, true, false, not, ◌&&◌, List, [], ◌∷◌, map, ltb, eqb, refl, sym, ap, ◌∙◌, arith, ◌↔◌, cond, Some, None, Float}
use Rattle.std.specs.List.{list_all}
use Rattle.std.specs.Bool.{Decides, then_some}
use Rattle.std.specs.Float.{float_is_finite, nan, inf, fin}
use Rattle.std.specs.Char.{to_ascii_lowercase}
use Rattle.std.specs.Cmp.Lexicographic.{pointwise}
use Rattle.std.specs.Str.{bytes_eq}
use Rattle.std.proofs.lemmas.Slice.Eq.{bytes_eq-Decides}
use Rattle.model.specs.Readings.{every, ascii, plain_text, same_bytes, same_letters, lower, finite}

pub every_is : (test : ℕ → Bool) (xs : List ℕ) → list_all test xs ≡ every test xs
unfolding every
every_is test [] = refl
every_is test (x ∷ xs) = ap (λ (t : Bool). test x && t) (every_is test xs)

-- a byte of a text with a key
abbrev pub plain_byte : ℕ → Bool
plain_byte b = ltb b 128 && (not (eqb b 42) && not (eqb b 63))

and_exchange : (a b c d : Bool) → (a && b) && (c && d) ≡ (a && c) && (b && d)
and_exchange false b c d = refl
and_exchange true true c d = refl
and_exchange true false true d = refl
and_exchange true false false d = refl

every_plain : (bs : List ℕ) → every plain_byte bs ≡ plain_text bs
unfolding plain_text ascii every
every_plain [] = refl
every_plain (b ∷ bs) =
    ap (λ (t : Bool). plain_byte b && t) (every_plain bs)
    ∙ and_exchange (ltb b 128) (not (eqb b 42) && not (eqb b 63)) (ascii bs) (every (λ b. not (eqb b 42) && not (eqb b 63)) bs)

pub plain_is : (xs : List ℕ) → list_all plain_byte xs ≡ plain_text xs
plain_is xs = every_is plain_byte xs ∙ every_plain xs

pub bytes_are : (xs ys : List ℕ) → pointwise eqb xs ys ≡ same_bytes xs ys
unfolding same_bytes
bytes_are [] [] = refl
bytes_are [] (y ∷ ys) = refl
bytes_are (x ∷ xs) [] = refl
bytes_are (x ∷ xs) (y ∷ ys) = ap (λ (t : Bool). eqb x y && t) (bytes_are xs ys)

pub lower_is : (b : ℕ) → to_ascii_lowercase b ≡ lower b
unfolding lower
lower_is b = grind arith

map_lower : (xs : List ℕ) → map to_ascii_lowercase xs ≡ map lower xs
map_lower [] = refl
map_lower (x ∷ xs) = cc (lower_is x, map_lower xs)

same_answer : (a b : Bool) (P : Type 0) → ((a ≡ true) ↔ P) → Decides b P → a ≡ b
same_answer true true P h d = refl
same_answer false false P h d = refl
same_answer true false P h d = sym (d.1 (h.0 refl))
same_answer false true P h d = h.1 (d.0 refl)

pub letters_are : (xs ys : List ℕ) (r : Bool) → ((r ≡ true) ↔ (map to_ascii_lowercase xs ≡ map to_ascii_lowercase ys)) → r ≡ same_letters xs ys
unfolding same_letters
letters_are xs ys r h =
    let low : List ℕ → List ℕ = λ zs. map to_ascii_lowercase zs in
    same_answer r (bytes_eq (low xs) (low ys)) _ h (bytes_eq-Decides (low xs) (low ys))
    ∙ bytes_are (low xs) (low ys)
    ∙ rw (map_lower xs, map_lower ys)

pub then_is : {A : Type 0} (b : Bool) (x : A) → then_some b x ≡ cond b (Some x) None
then_is true x = refl
then_is false x = refl

pub finite_is : (x : Float) → float_is_finite x ≡ finite x
unfolding float_is_finite finite
finite_is nan = refl
finite_is (inf s) = refl
finite_is (fin s m e) = refl
