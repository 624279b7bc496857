-- The bytes that a typed reference is made of, and the bytes at the start of a text that pass a test. Assumes nothing.
use Rattle.std.specs.Prelude.{ℕ, ◌-◌, Bool, false, cond, not, ◌&&◌, ◌||◌, List, [], ◌∷◌, leb, ltb, eqb}

unfoldable pub is_capital : ℕ → Bool
is_capital b = leb 65 b && leb b 90

unfoldable pub is_small : ℕ → Bool
is_small b = leb 97 b && leb b 122

-- an ASCII letter
unfoldable pub is_letter : ℕ → Bool
is_letter b = is_capital b || is_small b

unfoldable pub is_digit : ℕ → Bool
is_digit b = leb 48 b && leb b 57

-- a letter, a digit or an underscore (95)
unfoldable pub is_word_byte : ℕ → Bool
is_word_byte b = is_letter b || is_digit b || eqb b 95

-- no ASCII control byte: these are 0 to 31 and 127
unfoldable pub is_printable : ℕ → Bool
is_printable b = not (ltb b 32 || eqb b 127)

-- a letter as a capital one
unfoldable pub raised : ℕ → ℕ
raised b = cond (is_small b) (b - 32) b

unfoldable pub begins_with : (ℕ → Bool) → List ℕ → Bool
begins_with test [] = false
begins_with test (b ∷ bs) = test b

-- the bytes at the start that pass a test, up to the first that does not
unfoldable pub taken : (ℕ → Bool) → List ℕ → List ℕ
taken test [] = []
taken test (b ∷ bs) = let more = taken test bs in cond (test b) (b ∷ more) []
