-- The definition computed: a memory one element short, exact and longer; a refused result; a part at a place, and the next one; a text.
-- Assumes nothing.
use mathlib.Core.Path.{◌≡◌, refl}
use mathlib.Core.Bool.{true, false}
use mathlib.Core.List.{[], ◌∷◌}
use Rattle.memory.specs.Memory.{all_or, all_or_zeros, page_of, page, page_length}

-- ---- a result alone in its memory

short : page_of true 2 (7 ∷ 8 ∷ 9 ∷ []) ≡ 0 ∷ 0 ∷ []
unfolding all_or
short = refl

exact : page_of true 3 (7 ∷ 8 ∷ 9 ∷ []) ≡ 7 ∷ 8 ∷ 9 ∷ []
unfolding all_or
exact = refl

longer : page_of true 4 (7 ∷ 8 ∷ 9 ∷ []) ≡ 7 ∷ 8 ∷ 9 ∷ 0 ∷ []
unfolding all_or
longer = refl

refused : page_of false 4 (7 ∷ 8 ∷ 9 ∷ []) ≡ 0 ∷ 0 ∷ 0 ∷ 0 ∷ []
unfolding all_or
refused = refl

-- ---- a part at a place: what stands around it stays

at_place : all_or_zeros true (1 ∷ 2 ∷ 3 ∷ 4 ∷ []) 1 (7 ∷ 8 ∷ []) ≡ 1 ∷ 7 ∷ 8 ∷ 4 ∷ []
unfolding all_or
at_place = refl

at_the_end : all_or_zeros true (1 ∷ 2 ∷ 3 ∷ []) 1 (7 ∷ 8 ∷ []) ≡ 1 ∷ 7 ∷ 8 ∷ []
unfolding all_or
at_the_end = refl

past_the_end : all_or_zeros true (1 ∷ 2 ∷ 3 ∷ []) 2 (7 ∷ 8 ∷ []) ≡ 0 ∷ 0 ∷ 0 ∷ []
unfolding all_or
past_the_end = refl

-- nothing, at a place past the end, is refused too
nothing_past_the_end : all_or_zeros true (1 ∷ 2 ∷ []) 3 [] ≡ 0 ∷ 0 ∷ []
unfolding all_or
nothing_past_the_end = refl

-- ---- a text and its length

text_short : (page 1 (7 ∷ 8 ∷ []) ≡ 0 ∷ []) × (page_length 1 (7 ∷ 8 ∷ []) ≡ 0)
unfolding page page_length all_or
text_short = (refl, refl)

text_longer : (page 3 (7 ∷ 8 ∷ []) ≡ 7 ∷ 8 ∷ 0 ∷ []) × (page_length 3 (7 ∷ 8 ∷ []) ≡ 2)
unfolding page page_length all_or
text_longer = (refl, refl)
