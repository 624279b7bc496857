-- Floats by keys that rise with them: from the key of -∞ to that of ∞, each next key is that of the next float. Assumes nothing.
use Rattle.std.specs.Prelude.{ℕ, ◌-◌, ◌^◌, cond, from_bits, nat_lt, Float}
use Rattle.std.specs.Float.{binary64}

-- the bit pattern of a key: those of negative numbers, which fall as the numbers rise, stand first and in reverse
abbrev pub bits_of_key : ℕ → ℕ
bits_of_key key = cond (nat_lt key (2 ^ 63)) (2 ^ 64 - 1 - key) (key - 2 ^ 63)

unfoldable pub of_key : ℕ → Float
of_key key = from_bits binary64 (bits_of_key key)
