-- The first two lines of the worked text of document 01, and of one with a leading zero, computed on the definitions, and a name in
-- pools that are too short, exact and longer. Assumes nothing.
use mathlib.Core.Path.{◌≡◌, refl}
use mathlib.Core.Bool.{true, false}
use mathlib.Core.List.{[], ◌∷◌}
use Rattle.std.specs.Prelude.{Ok, Err}
use Rattle.memory.specs.Memory.{all_or}
use Rattle.grammar.specs.Gram.{Got}
use Rattle.grammar.specs.Gram.Got.{got, bad}
use Rattle.jobtext.specs.Text.{Head, head}
use Rattle.jobtext.proofs.Computing.{reading}
use Rattle.jobtext.proofs.WorkedText.{lines, worked_with, worked_text}
use Rattle.headlines.specs.Heads.{head_of, head_pooled}

worked_head : head_of (head.parse worked_text 0) 2
    ≡ Ok (record { fits = true; limit = 100; start = 0; cells = 3; regions = 3; rules = 2; name = 1; next = 53 })
unfolding reading lines worked_text worked_with
worked_head = refl

worked_pool : head_pooled (head.parse worked_text 0) 2 ≡ 0x53 ∷ 0 ∷ []
unfolding reading lines worked_text worked_with all_or
worked_pool = refl

leading_zero : head_of (head.parse (worked_with "100 0 3 03 2 t53") 0) 2
    ≡ Err (record { at = 46 })
unfolding reading lines worked_text worked_with
leading_zero = refl

-- ---- a name of two bytes, in a pool one byte short, exact and longer

abbrev named : Got Head
named = got (record { limit = 9; start = 8; cells = 7; regions = 6; rules = 5; name = 0x41 ∷ 0x42 ∷ [] }) 4

short : (head_of named 1 ≡ Ok (record { fits = false; limit = 9; start = 8; cells = 7; regions = 6; rules = 5; name = 2; next = 4 }))
    × (head_pooled named 1 ≡ 0 ∷ [])
unfolding all_or
short = (refl, refl)

exact : (head_of named 2 ≡ Ok (record { fits = true; limit = 9; start = 8; cells = 7; regions = 6; rules = 5; name = 2; next = 4 }))
    × (head_pooled named 2 ≡ 0x41 ∷ 0x42 ∷ [])
unfolding all_or
exact = (refl, refl)

longer : head_pooled named 3 ≡ 0x41 ∷ 0x42 ∷ 0 ∷ []
unfolding all_or
longer = refl

malformed : head_pooled (bad 4) 3 ≡ 0 ∷ 0 ∷ 0 ∷ []
malformed = refl
