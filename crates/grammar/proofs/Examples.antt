-- Lines, numbers and bytes of a text, computed on the definition. Assumes nothing.
use Prim.Native.Nat.{ℕ}
use mathlib.Core.Path.{◌≡◌, refl}
use mathlib.Core.List.{List, [], ◌∷◌, ◌++◌, map}
use Rattle.grammar.specs.Gram.{line_feeds, line_of}
use Rattle.grammar.specs.Parts.{bytes}
use Rattle.grammar.specs.Numbers.{digits, decimal_text, hex_digit, hex_digits, pairs_text}

-- an LF stands in the line that it ends
places : map (line_of (bytes "ab\n\nc")) (0 ∷ 2 ∷ 3 ∷ 4 ∷ 5 ∷ []) ≡ 1 ∷ 1 ∷ 2 ∷ 3 ∷ 3 ∷ []
unfolding line_feeds line_of bytes
places = refl

decimals : decimal_text 0 ++ (decimal_text 10 ++ decimal_text 18_446_744_073_709_551_615) ≡ bytes "01018446744073709551615"
unfolding bytes digits
decimals = refl

-- in lower case, with leading zeros
hexadecimals : hex_digits 16 0xabcdef0123456789 ++ hex_digits 2 0x0f ≡ bytes "abcdef01234567890f"
unfolding bytes hex_digit hex_digits
hexadecimals = refl

pairs : pairs_text (0x00 ∷ 0x4a ∷ 0xff ∷ []) ≡ bytes "004aff"
unfolding bytes hex_digit pairs_text
pairs = refl
