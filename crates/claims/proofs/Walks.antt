-- What the walk answers and leaves, by whether the table is fit for it. Assumes nothing.
use Rattle.std.specs.Prelude.{Some, None}
use Prim.Native.Nat.{ℕ, ◌≤◌, ◌<◌}
use native.Mathlib.Omega.{arith}
use mathlib.Core.Path.{◌≡◌, refl, sym, ap, ◌∙◌}
use mathlib.Core.Logic.{◌⊎◌, inl, inr}
use mathlib.Core.Bool.{Bool, true, false, ◌&&◌}
use mathlib.Core.List.{List}
use lib.Dec.{leb}
use lib.ListN.{length, get_or, replicate, length-replicate, get_or-eq_default}
use lib.Seq.{length-sets}
use borrow.Author.Tests.{leb-false}
use Rattle.laws.proofs.Lengths.{regions_length}
use Rattle.places.specs.Places.{Walked}
use Rattle.places.specs.Walk.{walk_fits, walk, walked, table_of}
use Rattle.places.proofs.Bounds.{walk_entries, blank}
use Rattle.places.proofs.Table.{walked_refused, table_refused, walked_compared, table_compared, table_entry}
use Rattle.claims.specs.Following.{Sides, cells_on, regions_on}

pub refused_other : (n : ℕ) → Some n ≡ None → ⊥
refused_other n e = let no : ◌≡◌ {A = ℕ} 0 1 = cc in omega arith

pub unfit : (cells regions room : ℕ) → walk_fits cells regions room ≡ false → (room < regions) ⊎ (65_535 < cells)
unfit cells regions room e = go (leb regions room) refl e
  where
    go : (b : Bool) → leb regions room ≡ b → b && leb cells 65_535 ≡ false → (room < regions) ⊎ (65_535 < cells)
    go true h e = inr (leb-false _ _ e)
    go false h e = inl (leb-false _ _ h)

module _ (s : Sides) (room : ℕ) where
  abbrev pub fits : Bool
  fits = walk_fits (length s.cells.rows) (length s.region_rows) room

  abbrev pub answer : Walked
  answer = walked (cells_on s) (regions_on s) room

  pub refused_unfit : fits ≡ false → answer ≡ None
  refused_unfit = walked_refused s.cells.rows s.cells.cols s.region_rows s.region_cols room

  pub compared_fit : fits ≡ true → answer ≡ Some (walk (cells_on s) (regions_on s)).comparisons
  compared_fit = walked_compared s.cells.rows s.cells.cols s.region_rows s.region_cols room

  -- a walk that is not refused had room, and made the comparisons of the definition
  pub is_compared : (n : ℕ) → Some n ≡ answer → (fits ≡ true) × (n ≡ (walk (cells_on s) (regions_on s)).comparisons)
  is_compared n e = go fits refl
    where
      go : (b : Bool) → fits ≡ b → (b ≡ true) × (n ≡ (walk (cells_on s) (regions_on s)).comparisons)
      go true h = (refl, let same = e ∙ compared_fit h in cc)
      go false h = absurd (refused_other n (e ∙ refused_unfit h))

-- ---- the table

module _ (s : Sides) (room : ℕ) where
  abbrev table : List ℕ
  table = table_of (cells_on s) (regions_on s) room

  table_zero : fits s room ≡ false → table ≡ replicate room 0
  table_zero = table_refused s.cells.rows s.cells.cols s.region_rows s.region_cols room

  table_laid : fits s room ≡ true → (i : ℕ) → get_or table i 0 ≡ get_or (walk (cells_on s) (regions_on s)).places i 0
  table_laid = table_entry s.cells.rows s.cells.cols s.region_rows s.region_cols room

  pub table_long : length table ≡ room
  table_long = go (fits s room) refl
    where
      go : (b : Bool) → fits s room ≡ b → length table ≡ room
      go true h =
          ap length (table_compared s.cells.rows s.cells.cols s.region_rows s.region_cols room h)
          ∙ length-sets (replicate room 0) 0 (walk (cells_on s) (regions_on s)).places ∙ length-replicate {A = ℕ} room 0
      go false h = ap length (table_zero h) ∙ length-replicate {A = ℕ} room 0

  -- behind the last region
  pub table_behind : (i : ℕ) → length s.region_rows ≤ i → get_or table i 0 ≡ 0
  table_behind i past = go (fits s room) refl
    where
      entries : length (walk (cells_on s) (regions_on s)).places ≤ i
      entries =
          omega (
            arith,
            past,
            walk_entries (cells_on s) (regions_on s),
            regions_length s.region_rows s.region_cols 0 (length s.region_rows),
          )

      go : (b : Bool) → fits s room ≡ b → get_or table i 0 ≡ 0
      go true h = table_laid h i ∙ get_or-eq_default (walk (cells_on s) (regions_on s)).places 0 entries
      go false h = ap (λ (t : List ℕ). get_or t i 0) (table_zero h) ∙ blank room i

  pub zero_if_refused : answer s room ≡ None → table ≡ replicate room 0
  zero_if_refused r = go (fits s room) refl
    where
      go : (b : Bool) → fits s room ≡ b → table ≡ replicate room 0
      go true h = absurd (refused_other _ (sym (compared_fit s room h) ∙ r))
      go false h = table_zero h
