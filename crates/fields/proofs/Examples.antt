-- The contract of `text` computed on a text of two bytes: into a pool one byte short, exact and longer, at its front and behind a byte
-- that stays; a place past the end; a malformed text. Assumes nothing.
use Prim.Native.Nat.{ℕ}
use mathlib.Core.Path.{◌≡◌, refl}
use mathlib.Core.Bool.{true, false}
use mathlib.Core.List.{List, [], ◌∷◌}
use Rattle.std.specs.Prelude.{Ok, Err}
use lib.ListN.{drop}
use Rattle.memory.specs.Memory.{all_or}
use Rattle.grammar.specs.Gram.{Got}
use Rattle.grammar.specs.Gram.Got.{got, bad}
use Rattle.grammar.specs.Numbers.{digit_value, is_hex, pairs_from}
use Rattle.fields.specs.Field.{text_of, pooled}

-- `48 69` and a line feed, read from place 1 on
abbrev read : Got (List ℕ)
read = got (0x48 ∷ 0x69 ∷ []) 6

worked : pairs_from 10 1 (drop 1 (0x74 ∷ 0x34 ∷ 0x38 ∷ 0x36 ∷ 0x39 ∷ 10 ∷ [])) ≡ read
unfolding pairs_from digit_value is_hex
worked = refl

short : (text_of read 0 1 ≡ Ok (record { fits = false; length = 2; next = 6 })) × (pooled read 0 (7 ∷ []) ≡ 0 ∷ [])
unfolding all_or
short = (refl, refl)

exact : (text_of read 0 2 ≡ Ok (record { fits = true; length = 2; next = 6 })) × (pooled read 0 (7 ∷ 8 ∷ []) ≡ 0x48 ∷ 0x69 ∷ [])
unfolding all_or
exact = (refl, refl)

longer : (text_of read 0 3 ≡ Ok (record { fits = true; length = 2; next = 6 }))
    × (pooled read 0 (7 ∷ 8 ∷ 9 ∷ []) ≡ 0x48 ∷ 0x69 ∷ 9 ∷ [])
unfolding all_or
longer = (refl, refl)

-- behind a byte of an earlier text
behind : (text_of read 1 3 ≡ Ok (record { fits = true; length = 2; next = 6 }))
    × (pooled read 1 (7 ∷ 8 ∷ 9 ∷ []) ≡ 7 ∷ 0x48 ∷ 0x69 ∷ [])
unfolding all_or
behind = (refl, refl)

short_behind : (text_of read 2 3 ≡ Ok (record { fits = false; length = 2; next = 6 }))
    × (pooled read 2 (7 ∷ 8 ∷ 9 ∷ []) ≡ 0 ∷ 0 ∷ 0 ∷ [])
unfolding all_or
short_behind = (refl, refl)

-- no bytes at all, at a place past the end
past_the_end : (text_of (got [] 2) 3 2 ≡ Ok (record { fits = false; length = 0; next = 2 }))
    × (pooled (got [] 2) 3 (7 ∷ 8 ∷ []) ≡ 0 ∷ 0 ∷ [])
unfolding all_or
past_the_end = (refl, refl)

malformed : (text_of (bad 3) 1 3 ≡ Err (record { at = 3 }))
    × (pooled (bad 3) 1 (7 ∷ 8 ∷ 9 ∷ []) ≡ 0 ∷ 0 ∷ 0 ∷ [])
malformed = (refl, refl)
