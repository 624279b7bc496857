-- The definitions computed, on bytes one short, exact and longer: a piece of bytes, a decimal, a number with the byte that ends it,
-- hexadecimal digits, pairs of these; a text that is kept; zeros from a place on. Assumes nothing.
use mathlib.Core.Path.{◌≡◌, refl}
use mathlib.Core.List.{[], ◌∷◌, ◌++◌}
use Rattle.memory.specs.Memory.{all_or}
use Rattle.grammar.specs.Numbers.{decimal_text, digits, hex_digit, hex_digits, pairs_text}
use Rattle.put.specs.Put.{last, Laid, kept_length, kept_bytes}

-- ---- bytes

byte_short : Laid (1 ∷ 2 ∷ []) 2 (7 ∷ []) (0 ∷ 0 ∷ []) 3
unfolding all_or
byte_short = record { bytes = refl; next = refl }

byte_exact : Laid (1 ∷ 2 ∷ []) 1 (7 ∷ []) (1 ∷ 7 ∷ []) 2
unfolding all_or
byte_exact = record { bytes = refl; next = refl }

byte_longer : Laid (1 ∷ 2 ∷ 3 ∷ []) 1 (7 ∷ []) (1 ∷ 7 ∷ 3 ∷ []) 2
unfolding all_or
byte_longer = record { bytes = refl; next = refl }

piece_short : Laid (1 ∷ 2 ∷ []) 1 (7 ∷ 8 ∷ []) (0 ∷ 0 ∷ []) 3
unfolding all_or
piece_short = record { bytes = refl; next = refl }

piece_exact : Laid (1 ∷ 2 ∷ 3 ∷ []) 1 (7 ∷ 8 ∷ []) (1 ∷ 7 ∷ 8 ∷ []) 3
unfolding all_or
piece_exact = record { bytes = refl; next = refl }

piece_longer : Laid (1 ∷ 2 ∷ 3 ∷ 4 ∷ []) 1 (7 ∷ 8 ∷ []) (1 ∷ 7 ∷ 8 ∷ 4 ∷ []) 3
unfolding all_or
piece_longer = record { bytes = refl; next = refl }

-- after a piece that does not fit none does, and the places go on
piece_after : Laid (0 ∷ 0 ∷ []) 3 (7 ∷ []) (0 ∷ 0 ∷ []) 4
unfolding all_or
piece_after = record { bytes = refl; next = refl }

-- up to 2^64 - 1
piece_to_last : Laid (0 ∷ []) 18_446_744_073_709_551_613 (7 ∷ 8 ∷ []) (0 ∷ []) last
unfolding all_or
piece_to_last = record { bytes = refl; next = refl }

piece_past_last : Laid (0 ∷ []) 18_446_744_073_709_551_614 (7 ∷ 8 ∷ []) (0 ∷ []) last
unfolding all_or
piece_past_last = record { bytes = refl; next = refl }

piece_from_last : Laid (0 ∷ 0 ∷ []) last (7 ∷ []) (0 ∷ 0 ∷ []) last
unfolding all_or
piece_from_last = record { bytes = refl; next = refl }

-- nothing past the end is refused too
nothing_past_the_end : Laid (1 ∷ 2 ∷ []) 3 [] (0 ∷ 0 ∷ []) 3
unfolding all_or
nothing_past_the_end = record { bytes = refl; next = refl }

-- ---- numbers

decimal_short : Laid (1 ∷ 2 ∷ []) 1 (decimal_text 42) (0 ∷ 0 ∷ []) 3
unfolding all_or digits
decimal_short = record { bytes = refl; next = refl }

decimal_exact : Laid (1 ∷ 2 ∷ 3 ∷ []) 1 (decimal_text 42) (1 ∷ 52 ∷ 50 ∷ []) 3
unfolding all_or digits
decimal_exact = record { bytes = refl; next = refl }

decimal_longer : Laid (1 ∷ 2 ∷ 3 ∷ 4 ∷ []) 1 (decimal_text 42) (1 ∷ 52 ∷ 50 ∷ 4 ∷ []) 3
unfolding all_or digits
decimal_longer = record { bytes = refl; next = refl }

-- 2^64 - 1 has 20 digits: they are counted
decimal_most : Laid [] 0 (decimal_text last) [] 20
unfolding all_or digits
decimal_most = record { bytes = refl; next = refl }

-- its digits fit, and the byte that ends it does not
number_short : Laid (1 ∷ 2 ∷ []) 0 (decimal_text 42 ++ (10 ∷ [])) (0 ∷ 0 ∷ []) 3
unfolding all_or digits
number_short = record { bytes = refl; next = refl }

number_exact : Laid (1 ∷ 2 ∷ 3 ∷ []) 0 (decimal_text 42 ++ (10 ∷ [])) (52 ∷ 50 ∷ 10 ∷ []) 3
unfolding all_or digits
number_exact = record { bytes = refl; next = refl }

number_longer : Laid (1 ∷ 2 ∷ 3 ∷ 4 ∷ []) 0 (decimal_text 42 ++ (10 ∷ [])) (52 ∷ 50 ∷ 10 ∷ 4 ∷ []) 3
unfolding all_or digits
number_longer = record { bytes = refl; next = refl }

hex_short : Laid (1 ∷ 2 ∷ []) 1 (hex_digits 2 175) (0 ∷ 0 ∷ []) 3
unfolding all_or hex_digit hex_digits
hex_short = record { bytes = refl; next = refl }

hex_exact : Laid (1 ∷ 2 ∷ 3 ∷ []) 1 (hex_digits 2 175) (1 ∷ 97 ∷ 102 ∷ []) 3
unfolding all_or hex_digit hex_digits
hex_exact = record { bytes = refl; next = refl }

hex_longer : Laid (1 ∷ 2 ∷ 3 ∷ 4 ∷ []) 1 (hex_digits 2 175) (1 ∷ 97 ∷ 102 ∷ 4 ∷ []) 3
unfolding all_or hex_digit hex_digits
hex_longer = record { bytes = refl; next = refl }

pairs_short : Laid (1 ∷ 2 ∷ 3 ∷ 4 ∷ []) 1 (pairs_text (175 ∷ 9 ∷ [])) (0 ∷ 0 ∷ 0 ∷ 0 ∷ []) 5
unfolding all_or hex_digit pairs_text
pairs_short = record { bytes = refl; next = refl }

pairs_exact : Laid (1 ∷ 2 ∷ 3 ∷ 4 ∷ 5 ∷ []) 1 (pairs_text (175 ∷ 9 ∷ [])) (1 ∷ 97 ∷ 102 ∷ 48 ∷ 57 ∷ []) 5
unfolding all_or hex_digit pairs_text
pairs_exact = record { bytes = refl; next = refl }

pairs_longer : Laid (1 ∷ 2 ∷ 3 ∷ 4 ∷ 5 ∷ 6 ∷ []) 1 (pairs_text (175 ∷ 9 ∷ [])) (1 ∷ 97 ∷ 102 ∷ 48 ∷ 57 ∷ 6 ∷ []) 5
unfolding all_or hex_digit pairs_text
pairs_longer = record { bytes = refl; next = refl }

-- ---- a text of two bytes that is kept

keep_short : (kept_length 1 2 ≡ 0) × (kept_bytes (7 ∷ []) 0 ≡ 0 ∷ [])
keep_short = (refl, refl)

keep_exact : (kept_length 2 2 ≡ 2) × (kept_bytes (7 ∷ 8 ∷ []) 2 ≡ 7 ∷ 8 ∷ [])
keep_exact = (refl, refl)

keep_longer : (kept_length 3 2 ≡ 2) × (kept_bytes (7 ∷ 8 ∷ 9 ∷ []) 2 ≡ 7 ∷ 8 ∷ 0 ∷ [])
keep_longer = (refl, refl)

keep_last : (kept_length 2 last ≡ 0) × (kept_bytes (7 ∷ 8 ∷ []) 0 ≡ 0 ∷ 0 ∷ [])
keep_last = (refl, refl)

-- ---- zeros from the place 2 on

clear_short : kept_bytes (7 ∷ []) 2 ≡ 7 ∷ []
clear_short = refl

clear_exact : kept_bytes (7 ∷ 8 ∷ []) 2 ≡ 7 ∷ 8 ∷ []
clear_exact = refl

clear_longer : kept_bytes (7 ∷ 8 ∷ 9 ∷ []) 2 ≡ 7 ∷ 8 ∷ 0 ∷ []
clear_longer = refl
