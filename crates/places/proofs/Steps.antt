-- One comparison of a walk, by the definition: a cell that comes before the region is passed, any other finishes the region. What holds
-- where no cell or no region is left, and of each comparison, holds of each walk. Assumes nothing.
use Prim.Native.Nat.{ℕ, suc, ◌+◌}
use mathlib.Core.Path.{◌≡◌, refl}
use mathlib.Core.Bool.{Bool, true, false, cond}
use mathlib.Core.List.{List, [], ◌∷◌}
use native.Mathlib.Nat.{add-zero, zero-add, suc-add}
use native.Mathlib.Numerals.{one-add}
use native.Mathlib.Omega.{arith}
use lib.ListN.{length, replicate}
use Rattle.model.specs.declared.CellCoordinate.{CellCoordinate}
use Rattle.model.specs.Sheet.{same_coordinate}
use Rattle.std.specs.declared.cmp.Ordering.TheVariants.{Less, Equal, Greater}
use Rattle.places.specs.Walk.{Walk, walk_of, before, side, passed, entry_here, comparisons_for, walk_from}

-- ---- what a comparison tells

before_told : (b s : Bool) → cond b Less (cond s Equal Greater) ≡ Less → b ≡ true
before_told true s e = refl
before_told false true e = cc
before_told false false e = cc

at_told : (b s : Bool) → cond b Less (cond s Equal Greater) ≡ Equal → (b ≡ false) × (s ≡ true)
at_told true s e = (cc, cc)
at_told false true e = (refl, refl)
at_told false false e = (cc, cc)

after_told : (b s : Bool) → cond b Less (cond s Equal Greater) ≡ Greater → (b ≡ false) × (s ≡ false)
after_told true s e = (cc, cc)
after_told false true e = (cc, cc)
after_told false false e = (refl, refl)

-- ---- one comparison

-- one comparison more, which finishes no region
abbrev pub passing : Walk → Walk
passing later = walk_of later.places (suc later.comparisons)

-- one comparison more, which finishes a region
abbrev pub entering : ℕ → Walk → Walk
entering entry later = walk_of (entry ∷ later.places) (suc later.comparisons)

one_more : (n : ℕ) (left : List CellCoordinate) → comparisons_for (suc n) left ≡ suc (comparisons_for n left)
unfolding comparisons_for
one_more n [] = refl
one_more n (c ∷ cs) = refl

module _ (i : ℕ) (c : CellCoordinate) (cs : List CellCoordinate) (r : CellCoordinate) (rs : List CellCoordinate) where
  pub walk_passes : before c r ≡ true → walk_from i (c ∷ cs) (r ∷ rs) ≡ passing (walk_from (suc i) cs (r ∷ rs))
  unfolding walk_from passed
  walk_passes e =
      let next : i + suc (passed r cs) ≡ suc i + passed r cs = omega arith in
      rw (e, next, one_more, suc-add i (passed r cs), suc-add)

  pub walk_enters : before c r ≡ false
      → walk_from i (c ∷ cs) (r ∷ rs) ≡ entering (cond (same_coordinate c r) (suc i) 0) (walk_from i (c ∷ cs) rs)
  unfolding walk_from passed entry_here comparisons_for
  walk_enters e = rw (e, add-zero, one-add)

  pub walk_before : side c r ≡ Less → walk_from i (c ∷ cs) (r ∷ rs) ≡ passing (walk_from (suc i) cs (r ∷ rs))
  unfolding side
  walk_before e = walk_passes (before_told (before c r) (same_coordinate c r) e)

  pub walk_at : side c r ≡ Equal → walk_from i (c ∷ cs) (r ∷ rs) ≡ entering (suc i) (walk_from i (c ∷ cs) rs)
  unfolding side
  walk_at e = let told = at_told (before c r) (same_coordinate c r) e in rw told.1 at (walk_enters told.0)

  pub walk_after : side c r ≡ Greater → walk_from i (c ∷ cs) (r ∷ rs) ≡ entering 0 (walk_from i (c ∷ cs) rs)
  unfolding side
  walk_after e = let told = after_told (before c r) (same_coordinate c r) e in rw told.1 at (walk_enters told.0)

-- ---- no comparison

pub walk_no_regions : (i : ℕ) (cells : List CellCoordinate) → walk_from i cells [] ≡ walk_of [] 0
unfolding walk_from
walk_no_regions i cells = refl

pub walk_no_cells : (i : ℕ) (regions : List CellCoordinate) → walk_from i [] regions ≡ walk_of (replicate (length regions) 0) 0
unfolding walk_from passed entry_here comparisons_for
walk_no_cells i [] = refl
walk_no_cells i (r ∷ rs) = rw (add-zero, walk_no_cells i rs, zero-add)

-- ---- every walk

module _
    (P : ℕ → List CellCoordinate → List CellCoordinate → Type 0)
    (no_cells : (i : ℕ) (regions : List CellCoordinate) → P i [] regions)
    (no_regions : (i : ℕ) (cells : List CellCoordinate) → P i cells [])
    (passes : (i : ℕ) (c : CellCoordinate) (cs : List CellCoordinate) (r : CellCoordinate) (rs : List CellCoordinate)
    → before c r ≡ true → P (suc i) cs (r ∷ rs) → P i (c ∷ cs) (r ∷ rs))
    (enters : (i : ℕ) (c : CellCoordinate) (cs : List CellCoordinate) (r : CellCoordinate) (rs : List CellCoordinate)
    → before c r ≡ false → P i (c ∷ cs) rs → P i (c ∷ cs) (r ∷ rs))
  where
    by_regions : (i : ℕ) (c : CellCoordinate) (cs : List CellCoordinate) → ((regions : List CellCoordinate) → P (suc i) cs regions)
        → (regions : List CellCoordinate) → P i (c ∷ cs) regions
    by_regions i c cs shorter [] = no_regions i (c ∷ cs)
    by_regions i c cs shorter (r ∷ rs) = go (before c r) refl (by_regions i c cs shorter rs)
      where
        go : (b : Bool) → before c r ≡ b → P i (c ∷ cs) rs → P i (c ∷ cs) (r ∷ rs)
        go true e later = passes i c cs r rs e (shorter (r ∷ rs))
        go false e later = enters i c cs r rs e later

    pub by_steps : (i : ℕ) (cells regions : List CellCoordinate) → P i cells regions
    by_steps i [] regions = no_cells i regions
    by_steps i (c ∷ cs) regions = by_regions i c cs (by_steps (suc i) cs) regions
