-- The colour column's number prints as red, green and blue, two digits each. Assumes nothing.
use Prim.Native.Nat.{ℕ, suc, ◌+◌, ◌*◌, ◌/◌, ◌%◌, ◌<◌}
use native.Mathlib.Omega.{arith}
use mathlib.Core.Path.{◌≡◌, ap, ◌∙◌}
use mathlib.Core.List.{[], ◌∷◌, ◌++◌, append_assoc}
use Rattle.model.specs.declared.Rgb.{Rgb}
use Rattle.model.specs.Ratio.{packed}
use Rattle.grammar.specs.Numbers.{hex_digit, hex_digits}

-- the last digit
hex_last : (k x d : ℕ) → d < 16 → hex_digits (suc k) (x * 16 + d) ≡ hex_digits k x ++ (hex_digit d ∷ [])
unfolding hex_digits
hex_last k x d h =
    let q : (x * 16 + d) / 16 ≡ x = omega arith in
    let r : (x * 16 + d) % 16 ≡ d = omega arith in
    rw (q, r)

-- the last two
hex_pair : (k x b : ℕ) → b < 256 → hex_digits (suc (suc k)) (x * 256 + b) ≡ hex_digits k x ++ hex_digits 2 b
unfolding hex_digits
hex_pair k x b h =
    let n : x * 256 + b ≡ (x * 16 + b / 16) * 16 + b % 16 = omega arith in
    let d : b / 16 % 16 ≡ b / 16 = omega arith in
    ap (hex_digits (suc (suc k))) n
    ∙ hex_last (suc k) (x * 16 + b / 16) (b % 16) (omega arith)
    ∙ rw (hex_last k x (b / 16) (omega arith), append_assoc, d)

pub colour_parts : (c : Rgb) → c.green < 256 → c.blue < 256
    → hex_digits 6 (packed c) ≡ hex_digits 2 c.red ++ (hex_digits 2 c.green ++ hex_digits 2 c.blue)
unfolding packed
colour_parts c k l =
    let n : c.red * 65_536 + c.green * 256 + c.blue ≡ (c.red * 256 + c.green) * 256 + c.blue = omega arith in
    ap (hex_digits 6) n
    ∙ hex_pair 4 (c.red * 256 + c.green) c.blue l
    ∙ rw (hex_pair 2 c.red c.green k, append_assoc)
