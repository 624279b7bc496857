-- Coordinates in sheet order: of two coordinates one comes before the other or they are the same, and in columns that rise each
-- coordinate comes before all later ones. Assumes nothing.
use Prim.Native.Nat.{ℕ, zero, suc, ◌+◌, ◌-◌, ◌<◌}
use native.Mathlib.Omega.{arith}
use mathlib.Core.Path.{◌≡◌, refl}
use mathlib.Core.Logic.{◌⊎◌, inl, inr}
use mathlib.Core.Bool.{Bool, true, false, ◌&&◌, ◌||◌, false≢true}
use mathlib.Core.List.{List}
use mathlib.Core.Option.{none}
use lib.Dec.{ltb, eqb}
use lib.ListN.{length, get_or}
use borrow.Author.Tests.{ltb-true, ltb-false, lt-ltb, le-ltb, eqb-true, eq-eqb, not-false}
use Rattle.model.specs.declared.CellCoordinate.{CellCoordinate}
use Rattle.model.specs.Job.{rises, falls_at, first_fall}
use Rattle.laws.proofs.First.{first_from_none}

-- ---- one coordinate before another

unfoldable pub Before : CellCoordinate → CellCoordinate → Type 0
Before p q = (p.row < q.row) ⊎ ((p.row ≡ q.row) × (p.col < q.col))

pub rises_before : (p q : CellCoordinate) → rises p.row p.col q.row q.col ≡ true → Before p q
unfolding rises Before
rises_before p q e = go (ltb p.row q.row) refl (eqb p.row q.row) refl e
  where
    go : (x : Bool) → ltb p.row q.row ≡ x → (y : Bool) → eqb p.row q.row ≡ y → x || (y && ltb p.col q.col) ≡ true
        → (p.row < q.row) ⊎ ((p.row ≡ q.row) × (p.col < q.col))
    go true l y m e = inl (ltb-true p.row q.row l)
    go false l true m e = inr (eqb-true p.row q.row m, ltb-true p.col q.col e)
    go false l false m e = absurd (false≢true e)

pub before_rises : (p q : CellCoordinate) → Before p q → rises p.row p.col q.row q.col ≡ true
unfolding rises Before
before_rises p q (inl a) = rw (lt-ltb p.row q.row a)
before_rises p q (inr a) = rw (le-ltb p.row q.row (omega arith), eq-eqb p.row q.row a.0, lt-ltb p.col q.col a.1)

pub before_trans : (p q r : CellCoordinate) → Before p q → Before q r → Before p r
unfolding Before
before_trans p q r (inl a) (inl b) = inl (omega arith)
before_trans p q r (inl a) (inr b) = inl (omega arith)
before_trans p q r (inr a) (inl b) = inl (omega arith)
before_trans p q r (inr a) (inr b) = inr (omega arith)

-- not both ways
pub before_not_after : (p q : CellCoordinate) → Before p q → Before q p → ⊥
unfolding Before
before_not_after p q (inl a) (inl b) = omega arith
before_not_after p q (inl a) (inr b) = omega arith
before_not_after p q (inr a) (inl b) = omega arith
before_not_after p q (inr a) (inr b) = omega arith

-- none comes before itself
pub before_not_self : (p : CellCoordinate) → Before p p → ⊥
before_not_self p b = before_not_after p p b b

pub before_or : (p q : CellCoordinate) → Before p q ⊎ ((p ≡ q) ⊎ Before q p)
unfolding Before
before_or p q =
    go (ltb p.row q.row) refl (ltb q.row p.row) refl (ltb p.col q.col) refl (ltb q.col p.col) refl
  where
    go : (a : Bool) → ltb p.row q.row ≡ a → (b : Bool) → ltb q.row p.row ≡ b → (c : Bool) → ltb p.col q.col ≡ c
        → (d : Bool) → ltb q.col p.col ≡ d → Before p q ⊎ ((p ≡ q) ⊎ Before q p)
    go true e b f c g d h = inl (inl (ltb-true p.row q.row e))
    go false e true f c g d h = inr (inr (inl (ltb-true q.row p.row f)))
    go false e false f true g d h =
        inl (inr (omega (arith, ltb-false p.row q.row e, ltb-false q.row p.row f), ltb-true p.col q.col g))
    go false e false f false g true h =
        inr (inr (inr (omega (arith, ltb-false p.row q.row e, ltb-false q.row p.row f), ltb-true q.col p.col h)))
    go false e false f false g false h =
        let row : p.row ≡ q.row = omega (arith, ltb-false p.row q.row e, ltb-false q.row p.row f) in
        let col : p.col ≡ q.col = omega (arith, ltb-false p.col q.col g, ltb-false q.col p.col h) in
        inr (inl (λ i. record { row = row i; col = col i }))

-- ---- columns that rise

abbrev coordinate : List ℕ → List ℕ → ℕ → CellCoordinate
coordinate rows cols i = record { row = get_or rows i 0; col = get_or cols i 0 }

pub rises_at : (rows cols : List ℕ) (i : ℕ) → falls_at rows cols (suc i) ≡ false
    → rises (get_or rows i 0) (get_or cols i 0) (get_or rows (suc i) 0) (get_or cols (suc i) 0) ≡ true
unfolding falls_at
rises_at rows cols i e = let back : suc i - 1 ≡ i = omega arith in not-false _ (rw back at e)

module _ (rows cols : List ℕ) (rise : first_fall rows cols ≡ none) where
  before_next : (i : ℕ) → suc i < length rows → Before (coordinate rows cols i) (coordinate rows cols (suc i))
  unfolding first_fall
  before_next i h =
      let risen = (first_from_none (falls_at rows cols) 1 (length rows - 1)).0 rise in
      rises_before _ _ (rises_at rows cols i (risen (suc i) (omega arith) (omega arith)))

  -- each comes before all later ones
  pub before_later : (i n : ℕ) → i + suc n < length rows → Before (coordinate rows cols i) (coordinate rows cols (i + suc n))
  before_later i zero h = let one : i + 1 ≡ suc i = omega arith in rw one (before_next i (omega arith))
  before_later i (suc n) h =
      let one : i + suc (suc n) ≡ suc (i + suc n) = omega arith in
      rw one (before_trans _ (coordinate rows cols (i + suc n)) _ (before_later i n (omega arith)) (before_next (i + suc n) (omega arith)))
