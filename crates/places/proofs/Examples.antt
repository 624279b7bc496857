-- The walk computed: entries, comparisons and cells reached of small sheets that rise, what becomes of regions that do not, and tables one
-- entry short, exact and longer. Assumes nothing.
use Rattle.std.specs.Prelude.{Some, None}
use Prim.Native.Nat.{ℕ}
use mathlib.Core.Path.{◌≡◌, refl}
use mathlib.Core.List.{List, [], ◌∷◌}
use Rattle.memory.specs.Memory.{all_or}
use Rattle.model.specs.declared.CellCoordinate.{CellCoordinate}
use Rattle.model.specs.Sheet.{same_coordinate}
use Rattle.model.specs.Job.{rises}
use Rattle.places.specs.Places.{Walked}
use Rattle.places.specs.Walk.{walk_of, passed, entry_here, comparisons_for, walk_from, walk, walked, table_of}
use Rattle.places.specs.Reached.{count, any_of, reached}

computed : Unit {0}
unfolding same_coordinate rises passed entry_here comparisons_for walk_from count any_of walked table_of all_or
computed = tt

abbrev at : ℕ → ℕ → CellCoordinate
at row col = record { row = row; col = col }

abbrev three : List CellCoordinate
three = at 0 1 ∷ at 2 0 ∷ at 4 4 ∷ []

-- the entries, the comparisons, and how many cells are passed or found
abbrev shown : List CellCoordinate → List CellCoordinate → List ℕ × ℕ × ℕ
shown cells regions = ((walk cells regions).places, (walk cells regions).comparisons, reached cells regions)

-- ---- cells and regions that rise

no_cells : shown [] three ≡ (0 ∷ 0 ∷ 0 ∷ [], 0, 0)
unfolding computed
no_cells = refl

no_regions : shown three [] ≡ ([], 0, 0)
unfolding computed
no_regions = refl

-- the most comparisons: one less than there are cells and regions
same : shown three three ≡ (1 ∷ 2 ∷ 3 ∷ [], 5, 3)
unfolding computed
same = refl

-- the fewest: one for each cell, all of them passed
all_before : shown three (at 5 0 ∷ []) ≡ (0 ∷ [], 3, 3)
unfolding computed
all_before = refl

-- no cell is reached, and the region is compared all the same
all_after : shown three (at 0 0 ∷ []) ≡ (0 ∷ [], 1, 0)
unfolding computed
all_after = refl

between_and_behind : shown three (at 0 2 ∷ at 3 9 ∷ at 4 5 ∷ at 4 6 ∷ []) ≡ (0 ∷ 0 ∷ 0 ∷ 0 ∷ [], 5, 3)
unfolding computed
between_and_behind = refl

first_and_last : shown three (at 0 1 ∷ at 4 4 ∷ []) ≡ (1 ∷ 3 ∷ [], 4, 3)
unfolding computed
first_and_last = refl

-- ---- regions that do not rise

-- two at one cell both find it
equal : walk three (at 2 0 ∷ at 2 0 ∷ []) ≡ walk_of (2 ∷ 2 ∷ []) 3
unfolding computed
equal = refl

-- one that falls behind misses its cell
falling : walk three (at 2 0 ∷ at 0 1 ∷ []) ≡ walk_of (2 ∷ 0 ∷ []) 3
unfolding computed
falling = refl

-- ---- tables

-- the answer and the table, where so many entries are lent
abbrev lent : ℕ → Walked × List ℕ
lent room = (walked three three room, table_of three three room)

one_short : lent 2 ≡ (None, 0 ∷ 0 ∷ [])
unfolding computed
one_short = refl

exact : lent 3 ≡ (Some 5, 1 ∷ 2 ∷ 3 ∷ [])
unfolding computed
exact = refl

longer : lent 5 ≡ (Some 5, 1 ∷ 2 ∷ 3 ∷ 0 ∷ 0 ∷ [])
unfolding computed
longer = refl
