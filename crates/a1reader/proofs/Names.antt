-- A name at the start of a text, quoted, bare or none, by the tests that the reader makes. Assumes nothing.
use Prim.Native.Nat.{ℕ, ◌+◌, ◌≤◌, ◌<◌}
use mathlib.Core.Path.{◌≡◌, refl, sym, ap, ◌∙◌}
use Rattle.std.specs.Prelude.{Option, Some, None}
use mathlib.Core.Bool.{Bool, true, false, cond, ◌&&◌, and-true, and-false}
use mathlib.Core.List.{List, [], ◌∷◌}
use native.Mathlib.Omega.{arith}
use lib.Dec.{leb, eqb}
use lib.ListN.{length, drop, get_or}
use borrow.Author.Tests.{le-leb, lt-leb, eq-eqb, ne_eqb}
use Rattle.model.specs.Readings.{every}
use Rattle.grammar.specs.Gram.{Got}
use Rattle.grammar.specs.Gram.Got.{got, bad}
use Rattle.grammar.specs.Parts.{then}
use Rattle.a1text.specs.Bytes.{is_letter, is_word_byte, is_printable, begins_with, taken}
use Rattle.a1text.specs.Names.{Name, is_name, is_bare, unquoted_from, quoted_p, bare_p, name_p}
use Rattle.a1text.proofs.Classes.{letter_low, letter_word, word_printable, every_weaker}
use Rattle.a1text.proofs.Runs.{taken_passes, begins_first}
use Rattle.a1reader.specs.declared.Between.{Between}
use Rattle.a1reader.specs.declared.NamePart.{NamePart}
use Rattle.a1reader.specs.Parts.{between_of, this_sheet, named, name_of}

-- ---- between quotes

module _ (s : List ℕ) where
  abbrev between : Option Between
  between = between_of 0 true (unquoted_from 1 (drop 1 s))

  tests : (a b c d : Bool) → ((a && b) && c) && d ≡ c && ((a && b) && d)
  tests true true true d = refl
  tests true true false d = refl
  tests true false true d = refl
  tests true false false d = refl
  tests false b true d = refl
  tests false b false d = refl

  -- a name of at most 255 bytes before an exclamation mark
  abbrev quoted_as : Option Between → Option NamePart
  quoted_as None = None
  quoted_as (Some f) = cond ((leb 1 f.length && leb f.length 255) && eqb (get_or s f.next 0) 33) (named 1 f.length (f.next + 1)) None

  quoted_is : quoted_as between ≡ name_of (quoted_p s 1)
  unfolding quoted_p is_name
  quoted_is = go (unquoted_from 1 (drop 1 s))
    where
      last : (bs : List ℕ) (q : ℕ) (c d : Bool)
          → quoted_as (cond c (Some (record { length = length bs; next = q })) None)
          ≡ name_of (cond (c && ((leb 1 (length bs) && leb (length bs) 255) && eqb (get_or s q 0) 33)) (got (Name.quoted bs) (q + 1)) (bad 1))
      last bs q true d = either ((leb 1 (length bs) && leb (length bs) 255) && eqb (get_or s q 0) 33)
        where
          either : (x : Bool) → cond x (named 1 (length bs) (q + 1)) None ≡ name_of (cond x (got (Name.quoted bs) (q + 1)) (bad 1))
          either true = refl
          either false = refl
      last bs q false d = refl

      go : (g : Got (List ℕ)) → quoted_as (between_of 0 true g)
          ≡ name_of (then g (λ bs q. cond (((leb 1 (length bs) && leb (length bs) 255) && every is_printable bs) && eqb (get_or s q 0) 33)
          (got (Name.quoted bs) (q + 1)) (bad 1)))
      go (got bs q) =
          let z : 0 + length bs ≡ length bs = omega arith in
          rw (z, tests (leb 1 (length bs)) (leb (length bs) 255) (every is_printable bs) (eqb (get_or s q 0) 33))
          (last bs q (every is_printable bs) true)
      go (bad p) = refl

  pub quoted_broken : None ≡ between → None ≡ name_of (quoted_p s 1)
  quoted_broken told = ap quoted_as told ∙ quoted_is

  module _ {f : Between} (told : Some f ≡ between) where
    read_as : quoted_as (Some f) ≡ name_of (quoted_p s 1)
    read_as = ap quoted_as told ∙ quoted_is

    pub quoted_none : f.length ≡ 0 → None ≡ name_of (quoted_p s 1)
    quoted_none h = rw h at read_as

    module _ (low : f.length ≡ 0 → ⊥) where
      least : leb 1 f.length ≡ true
      least = le-leb 1 f.length (omega (arith, low))

      pub quoted_long : 255 < f.length → None ≡ name_of (quoted_p s 1)
      quoted_long h = rw (least, lt-leb f.length 255 h) at read_as

      module _ (high : f.length ≤ 255) where
        pub quoted_alone : (get_or s f.next 0 ≡ 33 → ⊥) → None ≡ name_of (quoted_p s 1)
        quoted_alone h = rw (least, le-leb f.length 255 high, ne_eqb _ _ h) at read_as

        pub quoted_read : get_or s f.next 0 ≡ 33 → named 1 f.length (f.next + 1) ≡ name_of (quoted_p s 1)
        quoted_read h = rw (least, le-leb f.length 255 high, eq-eqb _ _ h) at read_as

-- ---- without quotes

no_letter : is_letter 0 ≡ false
no_letter = sym (letter_low 0 (omega arith))

-- the bytes of a word at the start begin with a letter where the text does
word_begins : (s : List ℕ) → begins_with is_letter (taken is_word_byte s) ≡ begins_with is_letter s
unfolding begins_with taken
word_begins [] = refl
word_begins (b ∷ s) = go (is_word_byte b) (is_letter b) refl refl
  where
    go : (x y : Bool) → is_word_byte b ≡ x → is_letter b ≡ y → begins_with is_letter (cond x (b ∷ taken is_word_byte s) []) ≡ is_letter b
    go true y e f = refl
    go false true e f = let no : true ≡ false = sym (letter_word b f) ∙ e in cc
    go false false e f = sym f

begins_length : (test : ℕ → Bool) (l : List ℕ) → begins_with test l ≡ true → 1 ≤ length l
unfolding begins_with
begins_length test [] e = cc
begins_length test (b ∷ l) e = omega arith

module _ (s : List ℕ) (end : ℕ) (told : end ≡ length (taken is_word_byte s)) where
  abbrev word : List ℕ
  word = taken is_word_byte s

  bare_first : is_bare word ≡ is_letter (get_or s 0 0)
  unfolding is_bare
  bare_first =
      rw (taken_passes is_word_byte s)
      (and-true (begins_with is_letter word) ∙ (word_begins s ∙ sym (begins_first is_letter no_letter s)))

  word_named : is_name word ≡ (leb 1 end && leb end 255)
  unfolding is_name
  word_named =
      rw (← told, every_weaker is_word_byte is_printable word_printable word (taken_passes is_word_byte s)) (and-true (leb 1 end && leb end 255))

  place : 0 + length word ≡ end
  place = omega arith

  pub bare_this : (get_or s end 0 ≡ 33 → ⊥) → this_sheet 0 ≡ name_of (bare_p s 0)
  unfolding bare_p
  bare_this h = rw (place, ne_eqb (get_or s end 0) 33 h)

  module _ (mark : get_or s end 0 ≡ 33) where
    pub bare_none : is_letter (get_or s 0 0) ≡ false → None ≡ name_of (bare_p s 0)
    unfolding bare_p
    bare_none h = rw (place, eq-eqb (get_or s end 0) 33 mark, bare_first, h)

    module _ (first : is_letter (get_or s 0 0) ≡ true) where
      pub bare_long : 255 < end → None ≡ name_of (bare_p s 0)
      unfolding bare_p
      bare_long h =
          rw (place, eq-eqb (get_or s end 0) 33 mark, bare_first, first, word_named, lt-leb end 255 h, and-false (leb 1 end))

      pub bare_read : end ≤ 255 → named 0 end (end + 1) ≡ name_of (bare_p s 0)
      unfolding bare_p
      bare_read h =
          let one : 1 ≤ end = rw told (begins_length is_letter word (word_begins s ∙ (sym (begins_first is_letter no_letter s) ∙ first))) in
          rw (place, eq-eqb (get_or s end 0) 33 mark, bare_first, first, word_named, le-leb 1 end one, le-leb end 255 h, ← told)

-- ---- either

module _ (s : List ℕ) where
  pub name_quoted : get_or s 0 0 ≡ 39 → quoted_p s 1 ≡ name_p s 0
  unfolding name_p
  name_quoted e = rw (eq-eqb _ _ e)

  pub name_bare : (get_or s 0 0 ≡ 39 → ⊥) → bare_p s 0 ≡ name_p s 0
  unfolding name_p
  name_bare n = rw (ne_eqb _ _ n)
