-- How many comparisons a walk over rising cells and regions makes: one for each cell that is passed and one for each region that is met,
-- and so at least one for each cell that is passed or found. Assumes nothing.
use Prim.Native.Nat.{ℕ, ◌+◌, ◌≤◌}
use native.Mathlib.Omega.{arith}
use mathlib.Core.Path.{◌≡◌, refl, sym, ap, ap₂, subst}
use mathlib.Core.Logic.{◌⊎◌, inl, inr}
use mathlib.Core.Bool.{Bool, true, false, cond, or-true}
use mathlib.Core.List.{List, [], ◌∷◌}
use mathlib.Core.Option.{none}
use Rattle.model.specs.declared.CellCoordinate.{CellCoordinate}
use Rattle.model.specs.Job.{first_fall}
use Rattle.laws.proofs.Rising.{Before, rises_before, before_rises, before_not_after, before_not_self}
use Rattle.laws.proofs.Apart.{same_coordinate_lem}
use Rattle.places.specs.Walk.{Walk, standing, before, walk}
use Rattle.places.specs.Reached.{count, any_of, is_passed, is_reached, is_met, reached}
use Rattle.places.proofs.InOrder.{Later, before_differs, Walks, no_regions, no_cells, passes, stays, walk_walks}

-- ---- counts

abbrev one_if : Bool → ℕ
one_if b = cond b 1 0

one_if_most : (b : Bool) → one_if b ≤ 1
one_if_most true = omega arith
one_if_most false = omega arith

count_never : (cs : List CellCoordinate) → count (λ c. false) cs ≡ 0
unfolding count
count_never [] = refl
count_never (c ∷ cs) = omega (arith, count_never cs)

count_later : (p : CellCoordinate) (f g : CellCoordinate → Bool) → ((q : CellCoordinate) → Before p q → f q ≡ g q)
    → (cs : List CellCoordinate) → Later p cs → count f cs ≡ count g cs
unfolding count
count_later p f g h [] l = refl
count_later p f g h (c ∷ cs) l = ap₂ (λ (b : Bool) (n : ℕ). one_if b + n) (h c l.0) (count_later p f g h cs l.1)

-- ---- the tests of a cell and a region

-- one that stands at another or comes after it does not come before it
not_before : (p q : CellCoordinate) → (p ≡ q) ⊎ Before q p → before p q ≡ false
not_before p q h = go (before p q) refl h
  where
    go : (t : Bool) → before p q ≡ t → (p ≡ q) ⊎ Before q p → t ≡ false
    go true e (inl s) = absurd (before_not_self q (subst (λ (x : CellCoordinate). Before x q) s (rises_before p q e)))
    go true e (inr b) = absurd (before_not_after p q (rises_before p q e) b)
    go false e h = refl

module _ (c r : CellCoordinate) (others : List CellCoordinate) where
  is_passed_lem : Before c r → is_passed (r ∷ others) c ≡ true
  unfolding any_of
  is_passed_lem b = rw (before_rises c r b)

  is_met_lem : (c ≡ r) ⊎ Before r c → is_met (c ∷ others) r ≡ true
  unfolding any_of
  is_met_lem (inl e) = rw ((same_coordinate_lem r c).1 (sym e), or-true)
  is_met_lem (inr b) = rw (before_rises r c b)

  -- a region is met by no cell before it
  met_left : Before c r → is_met (c ∷ others) r ≡ is_met others r
  unfolding any_of
  met_left b = rw (not_before r c (inr b), (before_differs c r b).1)

  -- a cell is passed for no region at it or before it, and found by none before it
  passed_left : (c ≡ r) ⊎ Before r c → is_passed (r ∷ others) c ≡ is_passed others c
  unfolding any_of
  passed_left h = rw (not_before c r h)

  reached_left : Before r c → is_reached (r ∷ others) c ≡ is_reached others c
  unfolding any_of
  reached_left b = rw (not_before c r (inr b), (before_differs r c b).1)

-- ---- the comparisons

walks_exactly : {place : ℕ} {cells regions : List CellCoordinate} {w : Walk} → Walks place cells regions w
    → w.comparisons ≡ count (is_passed regions) cells + count (is_met cells) regions
unfolding count any_of
walks_exactly (no_regions {place} {cells}) = omega (arith, count_never cells)
walks_exactly (no_cells w) = omega (arith, walks_exactly w)
walks_exactly (passes {place} {c} {r} {cs} {rs} l w) =
    let left = count_later c (is_met (c ∷ cs)) (is_met cs) (λ q. met_left c q cs) (r ∷ rs) l in
    omega (arith, walks_exactly w, ap one_if (is_passed_lem c r rs l.0), left)
walks_exactly (stays {place} {c} {r} {cs} {rs} h l w) =
    let left = count_later r (is_passed (r ∷ rs)) (is_passed rs) (λ q b. passed_left q r rs (inr b)) cs l in
    omega (arith, walks_exactly w, ap one_if (is_met_lem c r cs h), ap one_if (passed_left c r rs h), left)

walks_reached : {place : ℕ} {cells regions : List CellCoordinate} {w : Walk} → Walks place cells regions w
    → reached cells regions ≤ w.comparisons
unfolding count any_of
walks_reached (no_regions {place} {cells}) = omega (arith, count_never cells)
walks_reached (no_cells w) = omega arith
walks_reached (passes {place} {c} {r} {cs} {rs} l w) =
    omega (arith, walks_reached w, one_if_most (is_reached (r ∷ rs) c))
walks_reached (stays {place} {c} {r} {cs} {rs} h l w) =
    let left = count_later r (is_reached (r ∷ rs)) (is_reached rs) (λ q. reached_left q r rs) cs l in
    omega (arith, walks_reached w, one_if_most (is_reached (r ∷ rs) c), left)

-- ---- a sheet whose columns rise

module _ (rows cols region_rows region_cols : List ℕ) (rise : first_fall rows cols ≡ none)
    (rise' : first_fall region_rows region_cols ≡ none) where
  abbrev cells : List CellCoordinate
  cells = standing rows cols

  abbrev regions : List CellCoordinate
  regions = standing region_rows region_cols

  -- one comparison for each cell that a region comes after, and one for each region that a cell stands at or comes after
  pub walk_exactly : (walk cells regions).comparisons ≡ count (is_passed regions) cells + count (is_met cells) regions
  walk_exactly = walks_exactly (walk_walks rows cols region_rows region_cols rise rise')

  -- at least one for each cell that a region comes after or stands at
  pub walk_reached : reached cells regions ≤ (walk cells regions).comparisons
  walk_reached = walks_reached (walk_walks rows cols region_rows region_cols rise rise')
