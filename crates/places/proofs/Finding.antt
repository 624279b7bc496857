-- A walk over rising cells and regions gives each region the entry for its coordinate. Assumes nothing.
use Prim.Native.Nat.{ℕ, zero, suc, ◌+◌, ◌<◌}
use native.Mathlib.Nat.{add-zero, zero-add}
use native.Mathlib.Omega.{arith}
use mathlib.Core.Path.{◌≡◌, refl, ap, ap₂, ◌∙◌}
use mathlib.Core.Bool.{Bool, true, false, cond}
use mathlib.Core.List.{List, [], ◌∷◌, map}
use mathlib.Core.Option.{none}
use lib.Dec.{ltb}
use lib.ListN.{length, get_or}
use borrow.Author.Tests.{lt-ltb, le-ltb}
use Rattle.model.specs.declared.CellCoordinate.{CellCoordinate}
use Rattle.model.specs.Sheet.{same_coordinate, regions_from}
use Rattle.model.specs.Job.{first_fall}
use Rattle.laws.proofs.Rising.{Before}
use Rattle.cells.specs.Columns.{coordinate_at, place_from, entry_at}
use Rattle.places.specs.Walk.{Walk, standing, walk}
use Rattle.places.proofs.InOrder.{Later, before_differs, Walks, no_regions, no_cells, passes, stays, walk_walks}

-- ---- entries

-- the entry for a coordinate among these cells; `place` is that of the first
entry_in : ℕ → List CellCoordinate → CellCoordinate → ℕ
entry_in place [] at = 0
entry_in place (c ∷ cs) at = let later = entry_in (suc place) cs at in cond (same_coordinate c at) (suc place) later

entry_none : (at : CellCoordinate) (place : ℕ) (cs : List CellCoordinate) → Later at cs → entry_in place cs at ≡ 0
unfolding entry_in
entry_none at place [] l = refl
entry_none at place (c ∷ cs) l = rw (before_differs at c l.0).1 (entry_none at (suc place) cs l.1)

map_later : (p : CellCoordinate) (f g : CellCoordinate → ℕ) → ((q : CellCoordinate) → Before p q → f q ≡ g q)
    → (cs : List CellCoordinate) → Later p cs → map f cs ≡ map g cs
map_later p f g h [] l = refl
map_later p f g h (c ∷ cs) l = ap₂ ◌∷◌ (h c l.0) (map_later p f g h cs l.1)

walks_found : {place : ℕ} {cells regions : List CellCoordinate} {w : Walk} → Walks place cells regions w
    → w.places ≡ map (entry_in place cells) regions
unfolding entry_in
walks_found no_regions = refl
walks_found (no_cells w) = ap (λ (ps : List ℕ). 0 ∷ ps) (walks_found w)
walks_found (passes {place} {c} {r} {cs} {rs} l w) =
    walks_found w ∙ map_later c (entry_in (suc place) cs) (entry_in place (c ∷ cs)) (λ q b. rw (before_differs c q b).0) (r ∷ rs) l
walks_found (stays {place} {c} {r} {cs} {rs} h l w) = ap₂ ◌∷◌ (rw (entry_none r (suc place) cs l)) (walks_found w)

-- ---- by the columns

module _ (rows cols : List ℕ) where
  entry_from : (at : CellCoordinate) (i n : ℕ)
      → entry_in i (regions_from rows cols i n) at
      ≡ cond (ltb (place_from rows cols at i n) (i + n)) (suc (place_from rows cols at i n)) 0
  unfolding entry_in regions_from place_from
  entry_from at i zero = rw (le-ltb i (i + 0) (omega arith))
  entry_from at i (suc n) = go (same_coordinate (coordinate_at rows cols i) at) _ (entry_from at (suc i) n)
    where
      go : (b : Bool) {later : ℕ} (p : ℕ) → later ≡ cond (ltb p (suc i + n)) (suc p) 0
          → cond b (suc i) later ≡ cond (ltb (cond b i p) (i + suc n)) (suc (cond b i p)) 0
      go true p e = rw (lt-ltb i (i + suc n) (omega arith))
      go false p e = let along : i + suc n ≡ suc i + n = omega arith in rw along e

  entry_is : (at : CellCoordinate) → entry_in 0 (standing rows cols) at ≡ entry_at rows cols at
  unfolding entry_at
  entry_is at = rw zero-add at (entry_from at 0 (length rows))

  map_at : (f : CellCoordinate → ℕ) (i n k : ℕ) → k < n
      → get_or (map f (regions_from rows cols i n)) k 0 ≡ f (coordinate_at rows cols (i + k))
  unfolding regions_from
  map_at f i zero k h = absurd (omega arith)
  map_at f i (suc n) zero h = rw add-zero
  map_at f i (suc n) (suc k) h =
      let along : i + suc k ≡ suc i + k = omega arith in
      rw along (map_at f (suc i) n k (omega arith))

-- in a sheet whose columns rise the walk gives each region the entry for its coordinate
pub walk_finds : (rows cols region_rows region_cols : List ℕ) → first_fall rows cols ≡ none → first_fall region_rows region_cols ≡ none
    → (i : ℕ) → i < length region_rows
    → get_or (walk (standing rows cols) (standing region_rows region_cols)).places i 0
    ≡ entry_at rows cols (coordinate_at region_rows region_cols i)
walk_finds rows cols region_rows region_cols rise rise' i h =
    ap (λ (ps : List ℕ). get_or ps i 0) (walks_found (walk_walks rows cols region_rows region_cols rise rise'))
    ∙ (rw zero-add at (map_at region_rows region_cols (entry_in 0 (standing rows cols)) 0 (length region_rows) i h))
    ∙ entry_is rows cols (coordinate_at region_rows region_cols i)
