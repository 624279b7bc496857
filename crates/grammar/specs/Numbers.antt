-- Numbers and bytes as text: decimals without a leading zero, hexadecimal digits in lower case, and bytes as pairs of these.
-- Assumes nothing.
use Rattle.std.specs.Prelude.{ℕ, zero, suc, ◌+◌, ◌-◌, ◌*◌, ◌/◌, ◌%◌, ◌≤◌, ◌<◌, Bool, cond, ◌&&◌, List, [], ◌∷◌, ◌++◌, ltb, leb, eqb, length, drop, get_or}
use Rattle.grammar.specs.Gram.{Got, Parser, Gram}
use Rattle.grammar.specs.Gram.Got.{got, bad}
use Rattle.grammar.specs.Parts.{then, byte_p}

-- ---- decimals

-- the digits of n, which is below 10^(k + 1)
unfoldable pub digits : ℕ → ℕ → List ℕ
digits zero n = (48 + n) ∷ []
digits (suc k) n = cond (ltb n 10) ((48 + n) ∷ []) (digits k (n / 10) ++ ((48 + n % 10) ∷ []))

-- a number below 2^64
abbrev pub decimal_text : ℕ → List ℕ
decimal_text n = digits 19 n

-- reads on, with acc read so far and the next byte at pos: up to the first byte that is no digit
unfoldable pub decimal_from : ℕ → ℕ → ℕ → List ℕ → Got ℕ
decimal_from limit acc pos [] = got acc pos
decimal_from limit acc pos (c ∷ cs) =
    let v = acc * 10 + (c - 48) in
    let more = decimal_from limit v (pos + 1) cs in
    cond (ltb c 48) (got acc pos) (cond (ltb 57 c) (got acc pos) (cond (ltb limit v) (bad pos) more))

-- 0 alone, or digits of which the first is no 0
unfoldable pub decimal_at : ℕ → ℕ → List ℕ → Got ℕ
decimal_at limit pos [] = bad pos
decimal_at limit pos (c ∷ cs) =
    cond (eqb c 48) (got 0 (pos + 1))
    (cond (ltb c 48) (bad pos) (cond (ltb 57 c) (bad pos) (cond (ltb limit (c - 48)) (bad pos) (decimal_from limit (c - 48) (pos + 1) cs))))

unfoldable pub decimal_p : ℕ → ℕ → Parser ℕ
decimal_p limit end s at = then (decimal_at limit at (drop at s)) (λ n q. then (byte_p end s q) (λ _ e. got n e))

-- a number up to a limit below 2^64, and the byte that ends it
abbrev pub decimal : ℕ → ℕ → Gram ℕ
decimal limit end = record { parse = decimal_p limit end; Ok = λ n. n ≤ limit; text = λ n. decimal_text n ++ (end ∷ []) }

-- ---- hexadecimal digits

unfoldable pub hex_digit : ℕ → ℕ
hex_digit d = cond (ltb d 10) (48 + d) (87 + d)

-- the last k digits of n
unfoldable pub hex_digits : ℕ → ℕ → List ℕ
hex_digits zero n = []
hex_digits (suc k) n = hex_digits k (n / 16) ++ (hex_digit (n % 16) ∷ [])

-- the number of a digit, 16 for what is none
unfoldable pub digit_value : ℕ → ℕ
digit_value b = cond (ltb b 48) 16 (cond (leb b 57) (b - 48) (cond (ltb b 97) 16 (cond (leb b 102) (b - 87) 16)))

unfoldable pub is_hex : ℕ → Bool
is_hex b = ltb (digit_value b) 16

-- k digits more, after those of acc
unfoldable pub hex_p : ℕ → ℕ → Parser ℕ
hex_p zero acc s at = got acc at
hex_p (suc k) acc s at =
    let c = get_or s at 0 in
    let more = hex_p k (acc * 16 + digit_value c) s (at + 1) in
    cond (ltb at (length s) && is_hex c) more (bad at)

-- 16 to the k
unfoldable pub sixteens : ℕ → ℕ
sixteens zero = 1
sixteens (suc k) = sixteens k * 16

-- k digits
abbrev pub hex : ℕ → Gram ℕ
hex k = record { parse = hex_p k 0; Ok = λ v. v < sixteens k; text = hex_digits k }

-- ---- bytes

unfoldable pub pairs_text : List ℕ → List ℕ
pairs_text [] = []
pairs_text (b ∷ bs) = hex_digit (b / 16) ∷ hex_digit (b % 16) ∷ pairs_text bs

abbrev pub are_bytes : List ℕ → Type 0
are_bytes [] = Unit {0}
are_bytes (b ∷ bs) = (b < 256) × are_bytes bs

-- pairs of digits up to the byte that ends them; the next pair is at pos
unfoldable pub pairs_from : ℕ → ℕ → List ℕ → Got (List ℕ)
pairs_from end pos [] = bad pos
pairs_from end pos (c ∷ []) = cond (eqb c end) (got [] (pos + 1)) (bad pos)
pairs_from end pos (c ∷ (d ∷ cs)) =
    let more = then (pairs_from end (pos + 2) cs) (λ bs q. got ((digit_value c * 16 + digit_value d) ∷ bs) q) in
    cond (eqb c end) (got [] (pos + 1)) (cond (is_hex c && is_hex d) more (bad pos))

-- bytes, each as two digits, and the byte that ends them, which is no digit
abbrev pub pairs : ℕ → Gram (List ℕ)
pairs end =
    record { parse = λ s at. pairs_from end at (drop at s); Ok = are_bytes; text = λ bs. pairs_text bs ++ (end ∷ []) }
