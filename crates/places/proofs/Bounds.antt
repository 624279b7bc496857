-- What holds of each walk, whatever its cells and regions: at most one comparison less than there are cells and regions, an entry for each
-- region, and no entry past the last cell. Assumes nothing.
use Prim.Native.Nat.{ℕ, zero, suc, ◌+◌, ◌-◌, ◌≤◌}
use mathlib.Core.Path.{◌≡◌, refl, ap}
use mathlib.Core.Bool.{Bool, true, false, cond}
use mathlib.Core.List.{List, [], ◌∷◌}
use native.Mathlib.Omega.{arith}
use lib.ListN.{length, get_or, drop, replicate}
use Rattle.model.specs.declared.CellCoordinate.{CellCoordinate}
use Rattle.model.specs.Sheet.{same_coordinate}
use Rattle.places.specs.Walk.{before, passed, walk_from, walk}
use Rattle.places.proofs.Steps.{walk_passes, walk_enters, walk_no_regions, walk_no_cells, by_steps}

-- ---- comparisons

abbrev Fewer : ℕ → List CellCoordinate → List CellCoordinate → Type 0
Fewer i cells regions = (walk_from i cells regions).comparisons ≤ length cells + length regions - 1

from_fewer : (i : ℕ) (cells regions : List CellCoordinate) → Fewer i cells regions
from_fewer =
    by_steps Fewer
    (λ i regions. rw (walk_no_cells i regions) (omega arith))
    (λ i cells. rw (walk_no_regions i cells) (omega arith))
    (λ i c cs r rs e later. rw (walk_passes i c cs r rs e) (omega arith))
    (λ i c cs r rs e later. rw (walk_enters i c cs r rs e) (omega arith))

-- one less than there are cells and regions, unless there are none
pub walk_fewer : (cells regions : List CellCoordinate) → (walk cells regions).comparisons ≤ length cells + length regions - 1
walk_fewer cells regions = from_fewer 0 cells regions

pub walk_few : (cells regions : List CellCoordinate) → (walk cells regions).comparisons ≤ length cells + length regions
walk_few cells regions = omega (arith, walk_fewer cells regions)

-- ---- entries

from_entries : (i : ℕ) (cells regions : List CellCoordinate) → length (walk_from i cells regions).places ≡ length regions
unfolding walk_from
from_entries i cells [] = refl
from_entries i cells (r ∷ rs) =
    let n = passed r cells in
    ap suc (from_entries (i + n) (drop n cells) rs)

pub walk_entries : (cells regions : List CellCoordinate) → length (walk cells regions).places ≡ length regions
walk_entries cells regions = from_entries 0 cells regions

abbrev Named : ℕ → List CellCoordinate → List CellCoordinate → Type 0
Named i cells regions = (k : ℕ) → get_or (walk_from i cells regions).places k 0 ≤ i + length cells

-- a list of zeros reads as 0
pub blank : (n k : ℕ) → get_or {A = ℕ} (replicate n 0) k 0 ≡ 0
blank zero k = refl
blank (suc n) zero = refl
blank (suc n) (suc k) = blank n k

entry_most : (same : Bool) (i n : ℕ) → cond same (suc i) 0 ≤ i + suc n
entry_most true i n = omega arith
entry_most false i n = omega arith

passes_named : (i : ℕ) (c : CellCoordinate) (cs : List CellCoordinate) (r : CellCoordinate) (rs : List CellCoordinate)
    → before c r ≡ true → Named (suc i) cs (r ∷ rs) → Named i (c ∷ cs) (r ∷ rs)
passes_named i c cs r rs e later k = rw (walk_passes i c cs r rs e) (omega (arith, later k))

enters_named : (i : ℕ) (c : CellCoordinate) (cs : List CellCoordinate) (r : CellCoordinate) (rs : List CellCoordinate)
    → before c r ≡ false → Named i (c ∷ cs) rs → Named i (c ∷ cs) (r ∷ rs)
enters_named i c cs r rs e later zero = rw (walk_enters i c cs r rs e) (entry_most (same_coordinate c r) i (length cs))
enters_named i c cs r rs e later (suc k) = rw (walk_enters i c cs r rs e) (later k)

from_named : (i : ℕ) (cells regions : List CellCoordinate) → Named i cells regions
from_named =
    by_steps Named
    (λ i regions k. rw (walk_no_cells i regions) (omega (arith, blank (length regions) k)))
    (λ i cells k. rw (walk_no_regions i cells) (omega arith))
    passes_named
    enters_named

-- an entry names one of the cells, or none
pub walk_named : (cells regions : List CellCoordinate) (i : ℕ) → get_or (walk cells regions).places i 0 ≤ length cells
walk_named cells regions i = omega (arith, from_named 0 cells regions i)
