-- The letters of a column, its number, and a row's number as they are typed (document 02, T-04): columns A to XFD, rows 1 to 1048576.
-- Assumes nothing.
use Rattle.std.specs.Prelude.{ℕ, zero, suc, ◌+◌, ◌-◌, ◌*◌, ◌/◌, ◌%◌, ◌≤◌, ◌≡◌, Bool, true, false, cond, ◌&&◌, List, [], ◌∷◌, ◌++◌, leb, ltb, eqb, length, drop, get_or}
use Rattle.model.specs.Readings.{every}
use Rattle.grammar.specs.Gram.{Parser, Gram}
use Rattle.grammar.specs.Gram.Got.{got, bad}
use Rattle.grammar.specs.Parts.{then, bytes, kept}
use Rattle.grammar.specs.Numbers.{decimal_text, decimal_at}
use Rattle.a1text.specs.Bytes.{is_letter, raised, taken}

-- ---- columns

-- as many as a sheet has
abbrev pub columns : ℕ
columns = 16_384

-- the number of letters that follow others, which have the number n
unfoldable pub column_from : ℕ → List ℕ → ℕ
column_from n [] = n
column_from n (c ∷ cs) = column_from (n * 26 + (raised c - 64)) cs

-- the number of a column, from 1 on: A is 1, Z is 26, AA is 27; either case
unfoldable pub column_number : List ℕ → ℕ
column_number cs = column_from 0 cs

-- the capital letters, at most k + 1 of them, of the column that has n columns ahead of it
unfoldable pub capitals : ℕ → ℕ → List ℕ
capitals zero n = (65 + n) ∷ []
capitals (suc k) n = cond (ltb n 26) ((65 + n) ∷ []) (capitals k (n / 26 - 1) ++ ((65 + n % 26) ∷ []))

abbrev pub column_text : ℕ → List ℕ
column_text n = capitals 2 n

unfoldable pub is_column : List ℕ → Bool
is_column cs = every is_letter cs && leb 1 (column_number cs) && leb (column_number cs) columns

unfoldable pub letters_p : Parser (List ℕ)
letters_p s at = let cs = taken is_letter (drop at s) in cond (is_column cs) (got cs (at + length cs)) (bad at)

-- the letters of a column in either case
abbrev pub letters : Gram (List ℕ)
letters = record { parse = letters_p; Ok = λ cs. is_column cs ≡ true; text = λ cs. cs }

-- ---- rows

abbrev pub rows : ℕ
rows = 1_048_576

unfoldable pub row_p : Parser ℕ
row_p s at = then (decimal_at rows at (drop at s)) (λ n q. kept (leb 1 n) n at q)

-- digits without a leading zero
abbrev pub row : Gram ℕ
row = record { parse = row_p; Ok = λ n. (1 ≤ n) × (n ≤ rows); text = decimal_text }

-- ---- absolute or relative

-- `$` is 36
unfoldable pub mark_p : Parser Bool
mark_p s at = cond (eqb (get_or s at 0) 36) (got true (at + 1)) (got false at)

unfoldable pub mark_text : Bool → List ℕ
mark_text true = bytes "$"
mark_text false = []

-- the axis behind it is absolute where `$` stands
abbrev pub mark : Gram Bool
mark = record { parse = mark_p; Ok = λ _. Unit {0}; text = mark_text }
