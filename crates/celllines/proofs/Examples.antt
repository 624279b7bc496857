-- The contract of `read_cells` computed on a text of two bytes and a number: columns and a pool that are exact, longer, and one element
-- short, the columns by one of them; a malformed line. Assumes nothing.
use Prim.Native.Nat.{ℕ}
use mathlib.Core.Path.{◌≡◌, refl}
use mathlib.Core.Bool.{true, false}
use mathlib.Core.List.{List, [], ◌∷◌}
use Rattle.std.specs.Prelude.{Ok, Err}
use Rattle.memory.specs.Memory.{all_or}
use Rattle.model.specs.Sheet.{CellColumns}
use Rattle.grammar.specs.Gram.{Got}
use Rattle.grammar.specs.Gram.Got.{got, bad}
use Rattle.jobtext.specs.Written.{Value, CellLine}
use Rattle.jobtext.specs.Laid.{value_bytes, cell_bytes, kind_of, num_of, at_of, len_of, ats_from, columns_from}
use Rattle.celllines.specs.Columns.{columns, section_of, columns_after, pool_after}

-- cell (3, 4) with the text `Hi` and cell (5, 6) with 8 wraps and a number
abbrev two : Got (List CellLine)
two =
    got
    (record { row = 3; col = 4; wraps = 0; value = Value.text (0x48 ∷ 0x69 ∷ []) }
    ∷ record { row = 5; col = 6; wraps = 8; value = Value.number 11 } ∷ []) 40

-- all seven columns hold the same
abbrev each : List ℕ → CellColumns
each l = columns l l l l l l l

-- behind one byte of the pool
exact : (section_of 1 two (each (9 ∷ 9 ∷ [])) (7 ∷ 7 ∷ 7 ∷ []) ≡ Ok (record { fits = true; next = 40; used = 3 }))
    × (columns_after 1 two (each (9 ∷ 9 ∷ [])) (7 ∷ 7 ∷ 7 ∷ [])
    ≡ columns (3 ∷ 5 ∷ []) (4 ∷ 6 ∷ []) (3 ∷ 1 ∷ []) (0 ∷ 8 ∷ []) (0 ∷ 11 ∷ []) (1 ∷ 0 ∷ []) (2 ∷ 0 ∷ []))
    × (pool_after 1 two (each (9 ∷ 9 ∷ [])) (7 ∷ 7 ∷ 7 ∷ []) ≡ 7 ∷ 0x48 ∷ 0x69 ∷ [])
unfolding all_or columns_from ats_from cell_bytes value_bytes kind_of num_of at_of len_of
exact = (refl, refl, refl)

longer : (columns_after 0 two (each (9 ∷ 9 ∷ 9 ∷ [])) (7 ∷ 7 ∷ 7 ∷ [])
    ≡ columns (3 ∷ 5 ∷ 0 ∷ []) (4 ∷ 6 ∷ 0 ∷ []) (3 ∷ 1 ∷ 0 ∷ []) (0 ∷ 8 ∷ 0 ∷ []) (0 ∷ 11 ∷ 0 ∷ []) (0 ∷ 0 ∷ 0 ∷ []) (2 ∷ 0 ∷ 0 ∷ []))
    × (pool_after 0 two (each (9 ∷ 9 ∷ 9 ∷ [])) (7 ∷ 7 ∷ 7 ∷ []) ≡ 0x48 ∷ 0x69 ∷ 7 ∷ [])
unfolding all_or columns_from ats_from cell_bytes value_bytes kind_of num_of at_of len_of
longer = (refl, refl)

short_pool : (section_of 2 two (each (9 ∷ 9 ∷ [])) (7 ∷ 7 ∷ 7 ∷ []) ≡ Ok (record { fits = false; next = 40; used = 4 }))
    × (columns_after 2 two (each (9 ∷ 9 ∷ [])) (7 ∷ 7 ∷ 7 ∷ []) ≡ each (0 ∷ 0 ∷ []))
    × (pool_after 2 two (each (9 ∷ 9 ∷ [])) (7 ∷ 7 ∷ 7 ∷ []) ≡ 0 ∷ 0 ∷ 0 ∷ [])
unfolding all_or columns_from ats_from cell_bytes value_bytes kind_of num_of at_of len_of
short_pool = (refl, refl, refl)

abbrev lens_short : CellColumns
lens_short = columns (9 ∷ 9 ∷ []) (9 ∷ 9 ∷ []) (9 ∷ 9 ∷ []) (9 ∷ 9 ∷ []) (9 ∷ 9 ∷ []) (9 ∷ 9 ∷ []) (9 ∷ [])

short_column : (section_of 0 two lens_short (7 ∷ 7 ∷ []) ≡ Ok (record { fits = false; next = 40; used = 2 }))
    × (columns_after 0 two lens_short (7 ∷ 7 ∷ [])
    ≡ columns (0 ∷ 0 ∷ []) (0 ∷ 0 ∷ []) (0 ∷ 0 ∷ []) (0 ∷ 0 ∷ []) (0 ∷ 0 ∷ []) (0 ∷ 0 ∷ []) (0 ∷ []))
    × (pool_after 0 two lens_short (7 ∷ 7 ∷ []) ≡ 0 ∷ 0 ∷ [])
unfolding all_or columns_from ats_from cell_bytes value_bytes kind_of num_of at_of len_of
short_column = (refl, refl, refl)

malformed : (section_of 0 (bad 4) (each (9 ∷ [])) (7 ∷ 7 ∷ []) ≡ Err (record { at = 4 }))
    × (columns_after 0 (bad 4) (each (9 ∷ [])) (7 ∷ 7 ∷ []) ≡ each (0 ∷ [])) × (pool_after 0 (bad 4) (each (9 ∷ [])) (7 ∷ 7 ∷ []) ≡ 0 ∷ 0
    ∷ [])
malformed = (refl, refl, refl)
