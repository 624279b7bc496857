-- Split: where a comparison is split at its first operator outside quotes, over any bytes (document 01, 'Split').
-- Assumes nothing.
use Rattle.std.specs.Prelude.{ℕ, suc, ◌+◌, Bool, false, cond, not, ◌&&◌, ◌||◌, List, [], ◌∷◌, reverse, leb, eqb, take, drop, None, Some}
use Rattle.model.specs.declared.ConditionalComparison.{ConditionalComparison}
use Rattle.model.specs.Options.{Split}

-- bytes 9 to 13 and 32
unfoldable pub blank : ℕ → Bool
blank b = (leb 9 b && leb b 13) || eqb b 32

unfoldable pub drop_blanks : List ℕ → List ℕ
drop_blanks [] = []
drop_blanks (b ∷ bs) = let rest = drop_blanks bs in cond (blank b) rest (b ∷ bs)

-- without the blanks at both ends
unfoldable pub trimmed : List ℕ → List ℕ
trimmed bs = reverse (drop_blanks (reverse (drop_blanks bs)))

-- without one leading `=` (61)
unfoldable pub without_equals : List ℕ → List ℕ
without_equals [] = []
without_equals (b ∷ bs) = cond (eqb b 61) bs (b ∷ bs)

-- the bytes in which positions are counted
unfoldable pub formula : List ℕ → List ℕ
formula bs = without_equals (trimmed bs)

unfoldable pub begins : ℕ → List ℕ → Bool
begins b [] = false
begins b (c ∷ cs) = eqb c b

abbrev pub split_at : ConditionalComparison → ℕ → ℕ → Split
split_at op at width = Some (record { op = op; at = at; width = width })

-- the operator that stands at a position, `<>`, `<=`, `>=`, else `=`, `<`, `>` (60 is `<`, 61 `=`, 62 `>`); nothing where none does
unfoldable pub operator_at : ℕ → List ℕ → Split
operator_at at [] = None
operator_at at (b ∷ bs) =
    cond (eqb b 60 && begins 62 bs) (split_at ConditionalComparison.NotEqual at 2)
    (cond (eqb b 60 && begins 61 bs) (split_at ConditionalComparison.LessOrEqual at 2)
    (cond (eqb b 62 && begins 61 bs) (split_at ConditionalComparison.GreaterOrEqual at 2)
    (cond (eqb b 61) (split_at ConditionalComparison.Equal at 1)
    (cond (eqb b 60) (split_at ConditionalComparison.Less at 1)
    (cond (eqb b 62) (split_at ConditionalComparison.Greater at 1) None)))))

unfoldable pub or_later : Split → Split → Split
or_later (Some s) later = Some s
or_later None later = later

-- A quote `'` (39) opens and closes. Of `''` inside quotes the first closes and the second opens again, so that they go on.
unfoldable pub scan : Bool → ℕ → List ℕ → Split
scan quoted at [] = None
scan quoted at (b ∷ bs) =
    let toggled = scan (not quoted) (suc at) bs in
    let later = scan quoted (suc at) bs in
    cond (eqb b 39) toggled (cond quoted later (or_later (operator_at at (b ∷ bs)) later))

unfoldable pub split : List ℕ → Split
split bs = scan false 0 (formula bs)

unfoldable pub behind : List ℕ → Split → List ℕ
behind bs (Some s) = drop (s.at + s.width) bs
behind bs None = []

-- the right part: from behind the operator to the end, nothing without an operator
unfoldable pub right_part : List ℕ → List ℕ
right_part bs = behind (formula bs) (split bs)

unfoldable pub ahead : List ℕ → Split → List ℕ
ahead bs (Some s) = take s.at bs
ahead bs None = []

-- the left part: up to the operator, nothing without one
unfoldable pub left_part : List ℕ → List ℕ
left_part bs = ahead (formula bs) (split bs)
