-- One cell per coordinate: the cells of a well-formed job rise strictly, cells that rise stand apart, and there a coordinate has a key
-- exactly if a cell with a key stands at it. Assumes nothing.
use Prim.Native.Nat.{ℕ, zero, suc, ◌+◌}
use native.Mathlib.Omega.{arith}
use mathlib.Core.Path.{◌≡◌, refl, sym, ap, ◌∙◌}
use mathlib.Core.Logic.{◌↔◌, inl, inr}
use mathlib.Core.Bool.{Bool, true, false, cond, and-false, true≢false, false≢true}
use mathlib.Core.List.{List, [], ◌∷◌, Memᴰ}
use mathlib.Core.Option.{Option, none, some}
use lib.Dec.{eqb}
use borrow.Author.Tests.{eqb-true, eq-eqb, ne_eqb}
use Rattle.model.specs.declared.CellCoordinate.{CellCoordinate}
use Rattle.model.specs.Sheet.{Sheet, CellAt, CellColumns, same_coordinate, cell_at, cell_from, cells_from}
use Rattle.model.specs.Readings.{conditional_value_key, has_key, key_of, key_at}
use Rattle.model.specs.Answer.{Summary}
use Rattle.model.specs.Job.{Job, rises, falls_at, first_fall, refuse_at, first_of, malformed, sheet_of}
use Rattle.laws.proofs.Each.{Throughout}
use Rattle.laws.proofs.First.{first_from_none}
use Rattle.laws.proofs.Covered.{keyed_at, and_true}
use Rattle.laws.proofs.Rising.{Before, rises_before, before_trans, rises_at}

-- no cell of the list stands at the coordinate
abbrev pub Free : CellCoordinate → List CellAt → Type 0
Free at [] = Unit
Free at (c ∷ cs) = (same_coordinate c.at at ≡ false) × Free at cs

-- one cell per coordinate
abbrev pub Apart : List CellAt → Type 0
Apart [] = Unit
Apart (c ∷ cs) = Free c.at cs × Apart cs

-- each cell rises above the one before it
abbrev pub Rising : List CellAt → Type 0
Rising [] = Unit
Rising (c ∷ []) = Unit
Rising (c ∷ d ∷ cs) = (rises c.at.row c.at.col d.at.row d.at.col ≡ true) × Rising (d ∷ cs)

-- a cell that stands at a coordinate and has a key
pub record KeyedCell (pool : List ℕ) (cells : List CellAt) (at : CellCoordinate) : Type 0 where
  pub found : CellAt
  pub among : Memᴰ found cells
  pub here : found.at ≡ at
  pub keyed : has_key (conditional_value_key pool found.cell) ≡ true

-- ---- the cell with a key

-- the test of two coordinates is true exactly if they are the same
pub same_coordinate_lem : (a b : CellCoordinate) → (same_coordinate a b ≡ true) ↔ (a ≡ b)
unfolding same_coordinate
same_coordinate_lem a b = (
  λ e. let h = (and_true (eqb a.row b.row) (eqb a.col b.col)).0 e in
      λ i. record { row = eqb-true a.row b.row h.0 i; col = eqb-true a.col b.col h.1 i },
  λ p. (and_true (eqb a.row b.row) (eqb a.col b.col)).1
      (eq-eqb a.row b.row (ap (λ (x : CellCoordinate). x.row) p), eq-eqb a.col b.col (ap (λ (x : CellCoordinate). x.col) p)),
)

module _ (at : CellCoordinate) where
  stands_here : {d x : CellAt} → d ≡ x → d.at ≡ at → same_coordinate x.at at ≡ true
  stands_here {d} {x} e p = (same_coordinate_lem x.at at).1 (sym (ap (λ (c : CellAt). c.at) e) ∙ p)

  -- at a free coordinate no cell of the list stands
  pub free_none : {d : CellAt} {cs : List CellAt} → Memᴰ d cs → Free at cs → d.at ≡ at → ⊥
  free_none (Memᴰ.head e) f p = true≢false (sym (stands_here e p) ∙ f.0)
  free_none (Memᴰ.tail m) f p = free_none m f.1 p

module _ (pool : List ℕ) (at : CellCoordinate) where
  keyed_later : (c : CellAt) (cs : List CellAt) → KeyedCell pool cs at → KeyedCell pool (c ∷ cs) at
  keyed_later c cs k = record { found = k.found; among = Memᴰ.tail k.among; here = k.here; keyed = k.keyed }

  -- a key at a coordinate is the key of a cell that stands there
  pub keyed_cell : (cs : List CellAt) → has_key (key_at pool cs at) ≡ true → KeyedCell pool cs at
  unfolding key_at cell_at has_key
  keyed_cell [] e = absurd (false≢true e)
  keyed_cell (c ∷ cs) e = go (same_coordinate c.at at) refl e (keyed_cell cs)
    where
      go : (b : Bool) → same_coordinate c.at at ≡ b → has_key (key_of pool (cond b (some c.cell) (cell_at cs at))) ≡ true
          → (has_key (key_at pool cs at) ≡ true → KeyedCell pool cs at) → KeyedCell pool (c ∷ cs) at
      go true same e later = record { found = c; among = Memᴰ.head refl; here = (same_coordinate_lem c.at at).0 same; keyed = e }
      go false same e later = keyed_later c cs (later e)

  apart_keyed : {d : CellAt} {cs : List CellAt} → Memᴰ d cs → Apart cs → d.at ≡ at
      → has_key (conditional_value_key pool d.cell) ≡ true → has_key (key_at pool cs at) ≡ true
  unfolding key_at cell_at
  apart_keyed (Memᴰ.head e) f p k = rw (stands_here at e p) (rw (← e) k)
  apart_keyed (Memᴰ.tail {x} {xs} m) f p k = go (same_coordinate x.at at) refl (apart_keyed m f.1 p k)
    where
      go : (b : Bool) → same_coordinate x.at at ≡ b → has_key (key_at pool xs at) ≡ true
          → has_key (key_of pool (cond b (some x.cell) (cell_at xs at))) ≡ true
      go true same later = absurd (free_none x.at m f.0 (p ∙ sym ((same_coordinate_lem x.at at).0 same)))
      go false same later = later

-- with one cell per coordinate, a coordinate has a key exactly if a cell with a key stands there
pub keyed_is : (s : Sheet) (row col : ℕ) → Apart s.cells
    → (keyed_at s row col ≡ true) ↔ KeyedCell s.pool s.cells (record { row = row; col = col })
keyed_is s row col apart = (
  keyed_cell s.pool (record { row = row; col = col }) s.cells,
  λ k. apart_keyed s.pool (record { row = row; col = col }) k.among apart k.here k.keyed,
)

-- ---- rising cells stand apart

before_other : (p q : CellCoordinate) → Before p q → same_coordinate q p ≡ false
unfolding Before same_coordinate
before_other p q (inl a) = rw (ne_eqb q.row p.row (omega arith))
before_other p q (inr a) = rw (ne_eqb q.col p.col (omega arith)) (and-false (eqb q.row p.row))

before_free : (p : CellCoordinate) (c : CellAt) (cs : List CellAt) → Before p c.at → Rising (c ∷ cs) → Free p (c ∷ cs)
before_free p c [] b h = (before_other p c.at b, tt)
before_free p c (d ∷ cs) b h =
    (before_other p c.at b, before_free p d cs (before_trans p c.at d.at b (rises_before c.at d.at h.0)) h.1)

-- cells that rise stand apart
pub rising_apart : (cs : List CellAt) → Rising cs → Apart cs
rising_apart [] h = tt
rising_apart (c ∷ []) h = (tt, tt)
rising_apart (c ∷ d ∷ cs) h = (before_free c.at d cs (rises_before c.at d.at h.0) h.1, rising_apart (d ∷ cs) h.1)

-- ---- the cells of a well-formed job

pub first_of_none : (c : Option Summary) (cs : List (Option Summary)) → first_of (c ∷ cs) ≡ none → (c ≡ none) × (first_of cs ≡ none)
unfolding first_of
first_of_none none cs e = (refl, e)
first_of_none (some s) cs e = (cc, cc)

pub refuse_at_none : (j : Job) (number : ℕ) (o : Option ℕ) → refuse_at j number o ≡ none → o ≡ none
unfolding refuse_at
refuse_at_none j number none e = refl
refuse_at_none j number (some place) e = cc

cells_rising : (c : CellColumns) (i n : ℕ) → Throughout (falls_at c.rows c.cols) false (suc i) (i + n) → Rising (cells_from c i n)
unfolding cells_from cell_from
cells_rising c i zero h = tt
cells_rising c i (suc zero) h = tt
cells_rising c i (suc (suc n)) h = (
  rises_at c.rows c.cols i (h (suc i) (omega arith) (omega arith)),
  cells_rising c (suc i) (suc n) (λ k a b. h k (omega arith) (omega arith)),
)

-- the columns of a well-formed job rise
pub columns_rise : (j : Job) → malformed j ≡ none
    → (first_fall j.cells.rows j.cells.cols ≡ none) × (first_fall j.region_rows j.region_cols ≡ none)
unfolding malformed
columns_rise j e =
    let later = (first_of_none _ _ (first_of_none _ _ (first_of_none _ _ (first_of_none _ _ e).1).1).1).1 in
    (refuse_at_none j 4 _ (first_of_none _ _ later).0, refuse_at_none j 4 _ (first_of_none _ _ (first_of_none _ _ later).1).0)

-- the cells of a well-formed job rise
pub sheet_rising : (j : Job) → malformed j ≡ none → Rising (sheet_of j).cells
unfolding sheet_of first_fall
sheet_rising j e =
    let rises = (first_from_none (falls_at j.cells.rows j.cells.cols) 1 _).0 (columns_rise j e).0 in
    cells_rising j.cells 0 _ (λ k a b. rises k a (omega arith))
