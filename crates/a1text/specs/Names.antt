-- A sheet's name as it is typed in front of a cell: quoted, with `'` doubled, or bare; and the exclamation mark behind it (document 02,
-- T-04). Assumes nothing.
use Rattle.std.specs.Prelude.{ℕ, ◌+◌, ◌≡◌, Bool, true, cond, ◌&&◌, List, [], ◌∷◌, ◌++◌, leb, eqb, length, drop, get_or}
use Rattle.model.specs.Readings.{every}
use Rattle.grammar.specs.Gram.{Got, Parser, Gram}
use Rattle.grammar.specs.Gram.Got.{got, bad}
use Rattle.grammar.specs.Parts.{then, bytes}
use Rattle.a1text.specs.Bytes.{is_letter, is_word_byte, is_printable, begins_with, taken}

-- ---- the bytes of a name

-- 1 to 255 bytes, none of them a control byte
unfoldable pub is_name : List ℕ → Bool
is_name bs = leb 1 (length bs) && leb (length bs) 255 && every is_printable bs

-- letters, digits and underscores that start with a letter: such a name needs no quotes
unfoldable pub is_bare : List ℕ → Bool
is_bare bs = begins_with is_letter bs && every is_word_byte bs

-- each `'` (39) twice
unfoldable pub doubled : List ℕ → List ℕ
doubled [] = []
doubled (b ∷ bs) = cond (eqb b 39) (39 ∷ 39 ∷ doubled bs) (b ∷ doubled bs)

-- ---- as it is typed

-- no name means this sheet
pub data Name : Type 0 where
  this : Name
  bare : List ℕ → Name
  quoted : List ℕ → Name

unfoldable pub name_ok : Name → Bool
name_ok Name.this = true
name_ok (Name.bare bs) = is_bare bs && is_name bs
name_ok (Name.quoted bs) = is_name bs

unfoldable pub name_text : Name → List ℕ
name_text Name.this = []
name_text (Name.bare bs) = bs ++ bytes "!"
name_text (Name.quoted bs) = bytes "'" ++ (doubled bs ++ bytes "'!")

-- ---- how it is read

-- what stands between quotes, the first of which was read, with `''` as one quote, and the place behind the last of them
unfoldable pub unquoted_from : ℕ → List ℕ → Got (List ℕ)
unquoted_from pos [] = bad pos
unquoted_from pos (b ∷ []) = cond (eqb b 39) (got [] (pos + 1)) (bad (pos + 1))
unquoted_from pos (b ∷ (c ∷ bs)) =
    let more = then (unquoted_from (pos + 1) (c ∷ bs)) (λ name q. got (b ∷ name) q) in
    let two = then (unquoted_from (pos + 2) bs) (λ name q. got (39 ∷ name) q) in
    cond (eqb b 39) (cond (eqb c 39) two (got [] (pos + 1))) more

-- behind the first quote
unfoldable pub quoted_p : Parser Name
quoted_p s at =
    then (unquoted_from at (drop at s))
    (λ bs q. cond (is_name bs && eqb (get_or s q 0) 33) (got (Name.quoted bs) (q + 1)) (bad at))

-- bytes of a word make a name where an exclamation mark (33) follows them
unfoldable pub bare_p : Parser Name
bare_p s at =
    let word = taken is_word_byte (drop at s) in
    let q = at + length word in
    cond (eqb (get_or s q 0) 33) (cond (is_bare word && is_name word) (got (Name.bare word) (q + 1)) (bad at)) (got Name.this at)

unfoldable pub name_p : Parser Name
name_p s at = let quoted = quoted_p s (at + 1) in let other = bare_p s at in cond (eqb (get_or s at 0) 39) quoted other

abbrev pub sheet_name : Gram Name
sheet_name = record { parse = name_p; Ok = λ n. name_ok n ≡ true; text = name_text }
