-- A walk over cells and regions in order, comparison by comparison: a cell that is passed comes before every region left, and where the
-- walk stays, every cell behind the one that it stands at comes after the region. Assumes nothing.
use Prim.Native.Nat.{ℕ, zero, suc, ◌+◌, ◌-◌, ◌≤◌, ◌<◌}
use native.Mathlib.Omega.{arith}
use mathlib.Core.Path.{◌≡◌, refl, sym, subst, ◌∙◌}
use mathlib.Core.Logic.{◌⊎◌, inl, inr}
use mathlib.Core.Bool.{Bool, true, false, cond, true≢false}
use mathlib.Core.List.{List, [], ◌∷◌}
use mathlib.Core.Option.{none}
use lib.ListN.{length}
use Rattle.model.specs.declared.CellCoordinate.{CellCoordinate}
use Rattle.model.specs.Sheet.{same_coordinate, regions_from}
use Rattle.model.specs.Job.{first_fall}
use Rattle.laws.proofs.Rising.{Before, rises_before, before_rises, before_trans, before_not_self, before_or, before_later}
use Rattle.laws.proofs.Apart.{same_coordinate_lem}
use Rattle.cells.specs.Columns.{coordinate_at}
use Rattle.places.specs.Walk.{Walk, walk_of, standing, before, walk_from, walk}
use Rattle.places.proofs.Steps.{walk_passes, walk_enters, walk_no_cells}

-- ---- in order

-- the coordinate comes before each of these
abbrev pub Later : CellCoordinate → List CellCoordinate → Type 0
Later at [] = Unit
Later at (c ∷ cs) = Before at c × Later at cs

-- each comes before all later ones
abbrev Sorted : List CellCoordinate → Type 0
Sorted [] = Unit
Sorted (c ∷ cs) = Later c cs × Sorted cs

later_trans : (p q : CellCoordinate) (cs : List CellCoordinate) → Before p q → Later q cs → Later p cs
later_trans p q [] b l = tt
later_trans p q (c ∷ cs) b l = (before_trans p q c b l.0, later_trans p q cs b l.1)

-- of two coordinates in order neither is the other
pub before_differs : (p q : CellCoordinate) → Before p q → (same_coordinate p q ≡ false) × (same_coordinate q p ≡ false)
before_differs p q b = (differs p q apart, differs q p (λ e. apart (sym e)))
  where
    apart : p ≡ q → ⊥
    apart e = before_not_self q (subst (λ (x : CellCoordinate). Before x q) e b)

    differs : (x y : CellCoordinate) → (x ≡ y → ⊥) → same_coordinate x y ≡ false
    differs x y h = go (same_coordinate x y) refl
      where
        go : (t : Bool) → same_coordinate x y ≡ t → t ≡ false
        go true e = absurd (h ((same_coordinate_lem x y).0 e))
        go false e = refl

module _ (rows cols : List ℕ) (rise : first_fall rows cols ≡ none) where
  later_at : (i j : ℕ) → i < j → j < length rows → Before (coordinate_at rows cols i) (coordinate_at rows cols j)
  later_at i j h l =
      let there : i + suc (j - suc i) ≡ j = omega arith in
      rw there at (before_later rows cols rise i (j - suc i) (omega arith))

  later_from : (i j n : ℕ) → i < j → j + n ≤ length rows → Later (coordinate_at rows cols i) (regions_from rows cols j n)
  unfolding regions_from
  later_from i j zero h l = tt
  later_from i j (suc n) h l = (later_at i j h (omega arith), later_from i (suc j) n (omega arith) (omega arith))

  sorted_from : (i n : ℕ) → i + n ≤ length rows → Sorted (regions_from rows cols i n)
  unfolding regions_from
  sorted_from i zero l = tt
  sorted_from i (suc n) l = (later_from i (suc i) n (omega arith) (omega arith), sorted_from (suc i) n (omega arith))

  -- columns that rise hold coordinates in order
  standing_sorted : Sorted (standing rows cols)
  standing_sorted = sorted_from 0 (length rows) (omega arith)

-- ---- comparison by comparison

-- a walk over cells and regions in order, from a place on
pub data Walks : ℕ → List CellCoordinate → List CellCoordinate → Walk → Type 0 where
  no_regions : {place : ℕ} {cells : List CellCoordinate} → Walks place cells [] (walk_of [] 0)
  no_cells : {place : ℕ} {r : CellCoordinate} {rs : List CellCoordinate} {w : Walk} → Walks place [] rs w
      → Walks place [] (r ∷ rs) (walk_of (0 ∷ w.places) w.comparisons)
  passes : {place : ℕ} {c r : CellCoordinate} {cs rs : List CellCoordinate} {w : Walk} → Later c (r ∷ rs)
      → Walks (suc place) cs (r ∷ rs) w → Walks place (c ∷ cs) (r ∷ rs) (walk_of w.places (suc w.comparisons))
  stays : {place : ℕ} {c r : CellCoordinate} {cs rs : List CellCoordinate} {w : Walk} → (c ≡ r) ⊎ Before r c → Later r cs
      → Walks place (c ∷ cs) rs w
      → Walks place (c ∷ cs) (r ∷ rs) (walk_of (cond (same_coordinate c r) (suc place) 0 ∷ w.places) (suc w.comparisons))

not_before : (c r : CellCoordinate) → before c r ≡ false → (c ≡ r) ⊎ Before r c
not_before c r e = go (before_or c r)
  where
    go : Before c r ⊎ ((c ≡ r) ⊎ Before r c) → (c ≡ r) ⊎ Before r c
    go (inl b) = absurd (true≢false (sym (before_rises c r b) ∙ e))
    go (inr h) = h

later_behind : (c r : CellCoordinate) (cs : List CellCoordinate) → (c ≡ r) ⊎ Before r c → Later c cs → Later r cs
later_behind c r cs (inl e) l = subst (λ (p : CellCoordinate). Later p cs) e l
later_behind c r cs (inr b) l = later_trans r c cs b l

module _ (r : CellCoordinate) (rs : List CellCoordinate) (late : Later r rs)
    (after : (place : ℕ) (cells : List CellCoordinate) → Sorted cells → Walks place cells rs (walk_from place cells rs)) where
  walks_more : (place : ℕ) (cells : List CellCoordinate) → Sorted cells → Walks place cells (r ∷ rs) (walk_from place cells (r ∷ rs))
  walks_more place [] s =
      rw (walk_no_cells place (r ∷ rs)) (rw (walk_no_cells place rs) at (no_cells {r = r} (after place [] s)))
  walks_more place (c ∷ cs) s = go (before c r) refl (walks_more (suc place) cs s.1)
    where
      go : (b : Bool) → before c r ≡ b → Walks (suc place) cs (r ∷ rs) (walk_from (suc place) cs (r ∷ rs))
          → Walks place (c ∷ cs) (r ∷ rs) (walk_from place (c ∷ cs) (r ∷ rs))
      go true e w =
          let b = rises_before c r e in
          rw (walk_passes place c cs r rs e) (passes (b, later_trans c r rs b late) w)
      go false e w =
          let h = not_before c r e in
          rw (walk_enters place c cs r rs e) (stays h (later_behind c r cs h s.0) (after place (c ∷ cs) s))

walks : (place : ℕ) (cells regions : List CellCoordinate) → Sorted cells → Sorted regions
    → Walks place cells regions (walk_from place cells regions)
unfolding walk_from
walks place cells [] s t = no_regions
walks place cells (r ∷ rs) s t = walks_more r rs t.0 (λ p cs u. walks p cs rs u t.1) place cells s

-- the walk of a sheet whose columns rise
pub walk_walks : (rows cols region_rows region_cols : List ℕ) → first_fall rows cols ≡ none → first_fall region_rows region_cols ≡ none
    → Walks 0 (standing rows cols) (standing region_rows region_cols) (walk (standing rows cols) (standing region_rows region_cols))
walk_walks rows cols region_rows region_cols rise rise' =
    walks 0 _ _ (standing_sorted rows cols rise) (standing_sorted region_rows region_cols rise')
