-- The contract of `read_regions` computed on two regions: columns one element short, exact and longer, both and each by itself; a
-- malformed line. Assumes nothing.
use mathlib.Core.Path.{◌≡◌, refl}
use mathlib.Core.Bool.{true, false}
use mathlib.Core.List.{List, [], ◌∷◌}
use Rattle.std.specs.Prelude.{Ok, Err}
use Rattle.memory.specs.Memory.{all_or}
use Rattle.model.specs.declared.CellCoordinate.{CellCoordinate}
use Rattle.grammar.specs.Gram.{Got}
use Rattle.grammar.specs.Gram.Got.{got, bad}
use Rattle.regionlines.specs.Regions.{section_of, rows_after, cols_after}

-- regions (3, 4) and (5, 6)
abbrev two : Got (List CellCoordinate)
two = got (record { row = 3; col = 4 } ∷ record { row = 5; col = 6 } ∷ []) 8

exact : (section_of two (7 ∷ 7 ∷ []) (9 ∷ 9 ∷ []) ≡ Ok (record { fits = true; next = 8 }))
    × (rows_after two (7 ∷ 7 ∷ []) (9 ∷ 9 ∷ []) ≡ 3 ∷ 5 ∷ []) × (cols_after two (7 ∷ 7 ∷ []) (9 ∷ 9 ∷ []) ≡ 4 ∷ 6 ∷ [])
unfolding all_or
exact = (refl, refl, refl)

longer : (rows_after two (7 ∷ 7 ∷ 7 ∷ []) (9 ∷ 9 ∷ 9 ∷ 9 ∷ []) ≡ 3 ∷ 5 ∷ 0 ∷ [])
    × (cols_after two (7 ∷ 7 ∷ 7 ∷ []) (9 ∷ 9 ∷ 9 ∷ 9 ∷ []) ≡ 4 ∷ 6 ∷ 0 ∷ 0 ∷ [])
unfolding all_or
longer = (refl, refl)

short_rows : (section_of two (7 ∷ []) (9 ∷ 9 ∷ 9 ∷ []) ≡ Ok (record { fits = false; next = 8 }))
    × (rows_after two (7 ∷ []) (9 ∷ 9 ∷ 9 ∷ []) ≡ 0 ∷ []) × (cols_after two (7 ∷ []) (9 ∷ 9 ∷ 9 ∷ []) ≡ 0 ∷ 0 ∷ 0 ∷ [])
unfolding all_or
short_rows = (refl, refl, refl)

short_cols : (section_of two (7 ∷ 7 ∷ []) (9 ∷ []) ≡ Ok (record { fits = false; next = 8 }))
    × (rows_after two (7 ∷ 7 ∷ []) (9 ∷ []) ≡ 0 ∷ 0 ∷ []) × (cols_after two (7 ∷ 7 ∷ []) (9 ∷ []) ≡ 0 ∷ [])
unfolding all_or
short_cols = (refl, refl, refl)

malformed : (section_of (bad 2) (7 ∷ []) (9 ∷ 9 ∷ []) ≡ Err (record { at = 2 }))
    × (rows_after (bad 2) (7 ∷ []) (9 ∷ 9 ∷ []) ≡ 0 ∷ []) × (cols_after (bad 2) (7 ∷ []) (9 ∷ 9 ∷ []) ≡ 0 ∷ 0 ∷ [])
malformed = (refl, refl, refl)
