-- A whole text is accepted where and only where it is the text of a spelling, and of one alone; how such a text begins and ends.
-- Assumes nothing.
use Prim.Native.Nat.{ℕ, ◌≤◌, ◌<◌}
use mathlib.Core.Path.{◌≡◌, refl, ap, ◌∙◌}
use mathlib.Core.Logic.{◌⊎◌, inl, inr}
use mathlib.Core.Bool.{Bool, true, false, ◌||◌, and-eq-true_iff}
use mathlib.Core.List.{List, [], ◌∷◌, ◌++◌, append-nil, reverse, reverse-append}
use native.Mathlib.Omega.{arith}
use borrow.Author.Tests.{eqb-true, ne_eqb}
use Rattle.model.specs.Readings.{every}
use Rattle.grammar.specs.Gram.{Before}
use Rattle.grammar.specs.Parts.{both, bytes}
use Rattle.grammar.specs.Numbers.{decimal_text}
use Rattle.grammar.proofs.Before.{following_before, read_as_before}
use Rattle.grammar.proofs.Decimals.{decimal_begins}
use Rattle.a1text.specs.Bytes.{is_letter, is_digit, begins_with}
use Rattle.a1text.specs.Names.{Name, is_name, is_bare, name_ok, name_text}
use Rattle.a1text.specs.Columns.{column_number, column_from, is_column, letters, rows, row, mark_text, mark}
use Rattle.a1text.specs.Spelling.{Spelling, to_spelling, of_spelling, spelling}
use Rattle.a1text.proofs.Classes.{either_true, letter_range, digit_range, every_weaker, every_append, every_cons}
use Rattle.a1text.proofs.Columns.{column_is}
use Rattle.a1text.proofs.Quotes.{is_quote}
use Rattle.a1text.proofs.Parts.{is_mark, mark_before, letters_before, row_before, row_digits}
use Rattle.a1text.proofs.Names.{no_exclamation, Nameless, name_before}

-- ---- how a text begins

module _ (p q : ℕ → Bool) where
  pub begins_apart : ((b : ℕ) → p b ≡ true → q b ≡ false) → (l : List ℕ) → begins_with p l ≡ true → begins_with q l ≡ false
  unfolding begins_with
  begins_apart f [] e = refl
  begins_apart f (b ∷ l) e = f b e

  pub begins_weaker : ((b : ℕ) → p b ≡ true → q b ≡ true) → (l : List ℕ) → begins_with p l ≡ true → begins_with q l ≡ true
  unfolding begins_with
  begins_weaker f [] e = e
  begins_weaker f (b ∷ l) e = f b e

pub begins_append : (p : ℕ → Bool) (xs ys : List ℕ) → begins_with p xs ≡ true → begins_with p (xs ++ ys) ≡ true
unfolding begins_with
begins_append p [] ys e = let z : ◌≡◌ {A = ℕ} 0 1 = cc in absurd (omega arith)
begins_append p (x ∷ xs) ys e = e

-- letters of a column begin with one
pub letters_begin : (cs : List ℕ) → is_column cs ≡ true → begins_with is_letter cs ≡ true
unfolding begins_with column_number column_from
letters_begin [] o = let h = (column_is [] o).low in absurd (omega arith)
letters_begin (c ∷ cs) o = (every_cons is_letter c cs (column_is (c ∷ cs) o).letter).0

digits_begin : (n : ℕ) → n ≤ rows → begins_with is_digit (decimal_text n) ≡ true
unfolding begins_with
digits_begin n h =
    let d = decimal_begins n (omega arith) in
    let all = (row_digits n h).every in
    rw d.is (every_cons is_digit d.first d.rest (rw d.is at all)).0

-- ---- what stands apart

abbrev pub is_mark_or_letter : ℕ → Bool
is_mark_or_letter b = is_mark b || is_letter b

abbrev pub is_mark_or_digit : ℕ → Bool
is_mark_or_digit b = is_mark b || is_digit b

or_right : (a b : Bool) → b ≡ true → (a || b) ≡ true
or_right true b e = refl
or_right false b e = e

digit_no_mark : (b : ℕ) → is_digit b ≡ true → is_mark b ≡ false
digit_no_mark b e = let r = (digit_range b e).0 in ne_eqb b 36 (λ x. omega arith)

letter_no_mark : (b : ℕ) → is_letter b ≡ true → is_mark b ≡ false
letter_no_mark b e = let r = (letter_range b e).0 in ne_eqb b 36 (λ x. omega arith)

no_letter : (b : ℕ) → b < 65 → is_letter b ≡ false
no_letter b h = go (is_letter b) refl
  where
    go : (x : Bool) → is_letter b ≡ x → is_letter b ≡ false
    go true e = let r = (letter_range b e).0 in absurd (omega arith)
    go false e = e

mark_no_letter : (b : ℕ) → is_mark_or_digit b ≡ true → is_letter b ≡ false
mark_no_letter b e = go (either_true (is_mark b) (is_digit b) e)
  where
    go : (is_mark b ≡ true) ⊎ (is_digit b ≡ true) → is_letter b ≡ false
    go (inl h) = let x = eqb-true b 36 h in no_letter b (omega arith)
    go (inr h) = let x = (digit_range b h).1 in no_letter b (omega arith)

start_no_quote : (b : ℕ) → is_mark_or_letter b ≡ true → is_quote b ≡ false
start_no_quote b e = go (either_true (is_mark b) (is_letter b) e)
  where
    go : (is_mark b ≡ true) ⊎ (is_letter b ≡ true) → is_quote b ≡ false
    go (inl h) = let x = eqb-true b 36 h in ne_eqb b 39 (λ y. omega arith)
    go (inr h) = let x = (letter_range b h).0 in ne_eqb b 39 (λ y. omega arith)

-- ---- the texts of the parts, put together

abbrev row_text : Bool → ℕ → List ℕ
row_text absolute n = mark_text absolute ++ decimal_text n

row_starts : (a : Bool) (n : ℕ) → n ≤ rows → begins_with is_mark_or_digit (row_text a n) ≡ true
unfolding mark_text bytes begins_with
row_starts true n h = refl
row_starts false n h =
    begins_weaker is_digit is_mark_or_digit (λ b e. or_right (is_mark b) (is_digit b) e) (decimal_text n) (digits_begin n h)

abbrev cell_text : Bool → List ℕ → Bool → ℕ → List ℕ
cell_text c cs a n = mark_text c ++ (cs ++ row_text a n)

cell_starts : (c : Bool) (cs : List ℕ) (a : Bool) (n : ℕ) → is_column cs ≡ true → begins_with is_mark_or_letter (cell_text c cs a n) ≡ true
unfolding mark_text bytes begins_with
cell_starts true cs a n o = refl
cell_starts false cs a n o =
    begins_append is_mark_or_letter cs (row_text a n)
    (begins_weaker is_letter is_mark_or_letter (λ b e. or_right (is_mark b) (is_letter b) e) cs (letters_begin cs o))

marks_plain : (a : Bool) → every no_exclamation (mark_text a) ≡ true
unfolding mark_text bytes every
marks_plain true = refl
marks_plain false = refl

letter_plain : (b : ℕ) → is_letter b ≡ true → no_exclamation b ≡ true
letter_plain b e = let r = (letter_range b e).0 in rw (ne_eqb b 33 (λ x. omega arith))

digit_plain : (b : ℕ) → is_digit b ≡ true → no_exclamation b ≡ true
digit_plain b e = let r = (digit_range b e).0 in rw (ne_eqb b 33 (λ x. omega arith))

cell_plain : (c : Bool) (cs : List ℕ) (a : Bool) (n : ℕ) → is_column cs ≡ true → n ≤ rows → every no_exclamation (cell_text c cs a n) ≡ true
cell_plain c cs a n o h =
    every_append no_exclamation (mark_text c) _ (marks_plain c)
    (every_append no_exclamation cs _ (every_weaker is_letter no_exclamation letter_plain cs (column_is cs o).letter)
    (every_append no_exclamation (mark_text a) _ (marks_plain a)
    (every_weaker is_digit no_exclamation digit_plain (decimal_text n) (row_digits n h).every)))

-- ---- the grammar

alone : (x t : List ℕ) → t ≡ [] → x ++ t ≡ x
alone x t e = ap (λ (l : List ℕ). x ++ l) e ∙ append-nil x

row_part : Before (both mark row) (λ t. t ≡ [])
row_part =
    following_before mark_before (λ _. row_before)
    (λ a n t o e. rw (alone (decimal_text n) t e) (begins_apart is_digit is_mark digit_no_mark (decimal_text n) (digits_begin n o.1)))

letters_part : Before (both letters (both mark row)) (λ t. t ≡ [])
letters_part =
    following_before letters_before (λ _. row_part)
    (λ cs x t o e.
    rw (alone (row_text x.0 x.1) t e)
    (begins_apart is_mark_or_digit is_letter mark_no_letter (row_text x.0 x.1) (row_starts x.0 x.1 o.1.1)))

pub cell_before : Before (both mark (both letters (both mark row))) (λ t. t ≡ [])
cell_before =
    following_before mark_before (λ _. letters_part)
    (λ c x t o e.
    rw (alone (x.0 ++ row_text x.1.0 x.1.1) t e)
    (begins_apart is_letter is_mark letter_no_mark _
    (begins_append is_letter x.0 (row_text x.1.0 x.1.1) (letters_begin x.0 o.0))))

nameless : (x : Bool × (List ℕ × (Bool × ℕ))) (t : List ℕ) → (both mark (both letters (both mark row))).Ok x → t ≡ []
    → Nameless ((both mark (both letters (both mark row))).text x ++ t)
nameless x t o e =
    rw (alone (cell_text x.0 x.1.0 x.1.1.0 x.1.1.1) t e)
    (record {
      quote = begins_apart is_mark_or_letter is_quote start_no_quote _ (cell_starts x.0 x.1.0 x.1.1.0 x.1.1.1 o.1.0);
      mark = cell_plain x.0 x.1.0 x.1.1.0 x.1.1.1 o.1.0 o.1.1.1.1;
    })

pub spelling_before : Before spelling (λ t. t ≡ [])
unfolding spelling
spelling_before =
    read_as_before (following_before name_before (λ _. cell_before) (λ n x t o e. nameless x t o e)) to_spelling of_spelling
    (λ x o. refl) (λ p. refl)

-- ---- how the text of a spelling begins and ends

abbrev pub is_start : ℕ → Bool
is_start b = is_quote b || is_mark_or_letter b

name_starts : (n : Name) (rest : List ℕ) → name_ok n ≡ true → begins_with is_mark_or_letter rest ≡ true
    → begins_with is_start (name_text n ++ rest) ≡ true
unfolding name_ok name_text bytes is_bare begins_with
name_starts Name.this rest o e = begins_weaker is_mark_or_letter is_start (λ b h. or_right (is_quote b) (is_mark_or_letter b) h) rest e
name_starts (Name.bare bs) rest o e =
    let first = ((and-eq-true_iff (begins_with is_letter bs) _).0 ((and-eq-true_iff (is_bare bs) (is_name bs)).0 o).0).0 in
    begins_append is_start (bs ++ (33 ∷ [])) rest
    (begins_append is_start bs (33 ∷ [])
    (begins_weaker is_letter is_start (λ b h. or_right (is_quote b) _ (or_right (is_mark b) (is_letter b) h)) bs first))
name_starts (Name.quoted bs) rest o e = refl

-- the last byte of a text that ends in another is that one's
pub ends_append : (p : ℕ → Bool) (xs ys : List ℕ) → begins_with p (reverse ys) ≡ true → begins_with p (reverse (xs ++ ys)) ≡ true
ends_append p xs ys e = rw (reverse-append xs ys) (begins_append p (reverse ys) (reverse xs) e)

digits_end : (n : ℕ) → n ≤ rows → begins_with is_digit (reverse (decimal_text n)) ≡ true
unfolding begins_with
digits_end n h =
    let d = row_digits n h in
    let last = every_ends (decimal_text n) d.ahead d.last d.is d.every in
    rw (d.is, reverse-append d.ahead (d.last ∷ [])) last
  where
    every_last : (xs : List ℕ) (b : ℕ) → every is_digit (xs ++ (b ∷ [])) ≡ true → is_digit b ≡ true
    every_last [] b e = (every_cons is_digit b [] e).0
    every_last (x ∷ xs) b e = every_last xs b (every_cons is_digit x (xs ++ (b ∷ [])) e).1

    every_ends : (l xs : List ℕ) (b : ℕ) → l ≡ xs ++ (b ∷ []) → every is_digit l ≡ true → is_digit b ≡ true
    every_ends l xs b e f = every_last xs b (rw e at f)

module _ (p : Spelling) (o : spelling.Ok p) where
  pub text_starts : begins_with is_start (spelling.text p) ≡ true
  unfolding spelling
  text_starts =
      name_starts p.name _ o.0 (cell_starts p.col_absolute p.letters p.row_absolute p.row o.1.1.0)

  pub text_ends : begins_with is_digit (reverse (spelling.text p)) ≡ true
  unfolding spelling
  text_ends =
      ends_append is_digit (name_text p.name) _
      (ends_append is_digit (mark_text p.col_absolute) _
      (ends_append is_digit p.letters _
      (ends_append is_digit (mark_text p.row_absolute) _ (digits_end p.row o.1.1.1.1.1))))
