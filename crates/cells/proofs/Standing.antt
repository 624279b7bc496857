-- The place of a coordinate is that of a cell that stands there. Assumes nothing.
use Prim.Native.Nat.{ℕ, zero, suc, ◌+◌, ◌<◌}
use native.Mathlib.Omega.{arith}
use mathlib.Core.Path.{◌≡◌, refl, sym, ap, ◌∙◌}
use mathlib.Core.Bool.{Bool, true, false, cond}
use mathlib.Core.List.{List}
use lib.Dec.{ltb}
use lib.ListN.{length}
use borrow.Author.Tests.{ltb-true}
use Rattle.model.specs.declared.CellCoordinate.{CellCoordinate}
use Rattle.model.specs.Sheet.{same_coordinate}
use Rattle.laws.proofs.Apart.{same_coordinate_lem}
use Rattle.cells.specs.Columns.{coordinate_at, place_from, place_of, entry_at}

module _ (rows cols : List ℕ) (at : CellCoordinate) where
  here_or_later : (i later end : ℕ) (same : Bool) → same_coordinate (coordinate_at rows cols i) at ≡ same
      → (later < end → coordinate_at rows cols later ≡ at) → cond same i later < end → coordinate_at rows cols (cond same i later) ≡ at
  here_or_later i later end true e found h = (same_coordinate_lem _ at).0 e
  here_or_later i later end false e found h = found h

  place_stands : (i n : ℕ) → place_from rows cols at i n < i + n → coordinate_at rows cols (place_from rows cols at i n) ≡ at
  unfolding place_from
  place_stands i zero h = absurd (omega arith)
  place_stands i (suc n) h =
      here_or_later i (place_from rows cols at (suc i) n) (i + suc n) (same_coordinate (coordinate_at rows cols i) at) refl
      (λ k. place_stands (suc i) n (omega (arith, k))) h

  -- an entry that names a cell names one that stands at the coordinate
  pub entry_stands : (place : ℕ) → entry_at rows cols at ≡ suc place → (place < length rows) × (coordinate_at rows cols place ≡ at)
  unfolding entry_at
  entry_stands place e = go (ltb (place_of rows cols at) (length rows)) refl e
    where
      go : (inside : Bool) → ltb (place_of rows cols at) (length rows) ≡ inside → cond inside (suc (place_of rows cols at)) 0 ≡ suc place
          → (place < length rows) × (coordinate_at rows cols place ≡ at)
      go true h e =
          let here : place_of rows cols at ≡ place = omega (arith, e) in
          let below : place_of rows cols at < length rows = ltb-true _ _ h in
          (omega (arith, here, below), ap (coordinate_at rows cols) (sym here) ∙ place_stands 0 (length rows) (omega (arith, below)))
      go false h e = absurd (omega (arith, e))
