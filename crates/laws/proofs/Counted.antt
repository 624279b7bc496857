-- A program can count: over cells that rise strictly, an upright range is covered exactly if as many cells in range have a key as the
-- range has coordinates. Both numbers are sums over the coordinates, of 1 at each key and of 1 everywhere. Assumes nothing.
use Prim.Native.Nat.{ℕ, zero, suc, ◌+◌, ◌-◌, ◌*◌, ◌≤◌, ◌<◌}
use native.Mathlib.Omega.{arith}
use mathlib.Core.Path.{◌≡◌, refl, sym, ap, ap₂, fun_ext, subst, ◌∙◌}
use mathlib.Core.Logic.{◌↔◌}
use mathlib.Core.Bool.{Bool, true, false, cond, ◌&&◌, and_assoc, false≢true}
use mathlib.Core.List.{List, [], ◌∷◌}
use mathlib.Core.Option.{some}
use lib.Dec.{leb, eqb}
use borrow.Author.Tests.{leb-true, leb-false, eqb-true, eqb-false, ne_eqb}
use Rattle.model.specs.declared.CellCoordinate.{CellCoordinate}
use Rattle.model.specs.declared.Range.{Range}
use Rattle.model.specs.Sheet.{Sheet, CellAt, same_coordinate, cell_at, in_range, upright, area}
use Rattle.model.specs.Readings.{conditional_value_key, has_key, key_of, key_at}
use Rattle.model.specs.Rule.{each, covered}
use Rattle.laws.proofs.Covered.{keyed_at, upright_true}
use Rattle.laws.proofs.Apart.{Free, Apart, Rising, same_coordinate_lem, keyed_cell, free_none, rising_apart}

-- how many cells in range have a key
unfoldable pub keys_in : List ℕ → Range → List CellAt → ℕ
keys_in pool r [] = 0
keys_in pool r (c ∷ cs) = cond (in_range r c.at && has_key (conditional_value_key pool c.cell)) 1 0 + keys_in pool r cs

-- ---- sums

-- the sum of f over the n numbers from i on
sum : (ℕ → ℕ) → ℕ → ℕ → ℕ
sum f i zero = 0
sum f i (suc n) = f i + sum f (suc i) n

sum_same : (f g : ℕ → ℕ) (i n : ℕ) → ((k : ℕ) → f k ≡ g k) → sum f i n ≡ sum g i n
sum_same f g i n h = ap (λ (e : ℕ → ℕ). sum e i n) (fun_ext h)

sum_add : (f g : ℕ → ℕ) (i n : ℕ) → sum (λ k. f k + g k) i n ≡ sum f i n + sum g i n
unfolding sum
sum_add f g i zero = refl
sum_add f g i (suc n) = omega (arith, sum_add f g (suc i) n)

sum_zero : (i n : ℕ) → sum (λ k. 0) i n ≡ 0
unfolding sum
sum_zero i zero = refl
sum_zero i (suc n) = omega (arith, sum_zero (suc i) n)

sum_most : (f : ℕ → ℕ) (m i n : ℕ) → ((k : ℕ) → f k ≤ m) → sum f i n ≤ n * m
unfolding sum
sum_most f m i zero h = omega arith
sum_most f m i (suc n) h = omega (arith, h i, sum_most f m (suc i) n h)

-- a test holds at each number exactly if the sum is the greatest that it can be
each_sum : (test : ℕ → Bool) (f : ℕ → ℕ) (m : ℕ) → ((k : ℕ) → f k ≤ m) → ((k : ℕ) → (test k ≡ true) ↔ (f k ≡ m)) → (i n : ℕ)
    → (each test i n ≡ true) ↔ (sum f i n ≡ n * m)
unfolding each sum
each_sum test f m most full i zero = (λ e. omega arith, λ e. refl)
each_sum test f m most full i (suc n) = go (test i) refl (each_sum test f m most full (suc i) n)
  where
    go : (b : Bool) → test i ≡ b → (each test (suc i) n ≡ true) ↔ (sum f (suc i) n ≡ n * m)
        → (cond b (each test (suc i) n) false ≡ true) ↔ (f i + sum f (suc i) n ≡ suc n * m)
    go true e later = let here = (full i).0 e in (λ t. let rest = later.0 t in omega arith, λ t. later.1 (omega arith))
    go false e later =
        (λ t. absurd (false≢true t), λ t. sym e ∙ (full i).1 (omega (arith, most i, sum_most f m (suc i) n most)))

-- ---- sums of one summand

-- m at a, and 0 elsewhere
abbrev only : ℕ → ℕ → ℕ → ℕ
only a m k = cond (eqb a k) m 0

sum_past : (a m i n : ℕ) → (i ≤ a → a < i + n → ⊥) → sum (only a m) i n ≡ 0
unfolding sum
sum_past a m i zero h = refl
sum_past a m i (suc n) h =
    rw (ne_eqb a i (λ e. h (omega arith) (omega arith))) (omega (arith, sum_past a m (suc i) n (λ p q. h (omega arith) (omega arith))))

sum_only : (a m i n : ℕ) → i ≤ a → a < i + n → sum (only a m) i n ≡ m
unfolding sum
sum_only a m i zero p q = absurd (omega arith)
sum_only a m i (suc n) p q = go (eqb a i) refl (λ h. sum_only a m (suc i) n h (omega arith))
  where
    go : (b : Bool) → eqb a i ≡ b → (i < a → sum (only a m) (suc i) n ≡ m) → cond b m 0 + sum (only a m) (suc i) n ≡ m
    go true e later = let same = eqb-true a i e in omega (arith, sum_past a m (suc i) n (λ p q. absurd (omega arith)))
    go false e later = let other = eqb-false a i e in omega (arith, later (omega arith))

sum_through : (a m i j : ℕ) → i ≤ j → sum (only a m) i (suc (j - i)) ≡ cond (leb i a && leb a j) m 0
sum_through a m i j h = go (leb i a) refl (leb a j) refl
  where
    go : (x : Bool) → leb i a ≡ x → (y : Bool) → leb a j ≡ y → sum (only a m) i (suc (j - i)) ≡ cond (x && y) m 0
    go true p true q = let low = leb-true i a p in let high = leb-true a j q in sum_only a m i (suc (j - i)) low (omega arith)
    go true p false q = let past = leb-false a j q in sum_past a m i (suc (j - i)) (λ s t. omega arith)
    go false p y q = let ahead = leb-false i a p in sum_past a m i (suc (j - i)) (λ s t. omega arith)

cond_and : (a b : Bool) (m : ℕ) → cond (a && b) m 0 ≡ cond a (cond b m 0) 0
cond_and true b m = refl
cond_and false b m = refl

cond_swap : (a b : Bool) (m : ℕ) → cond a (cond b m 0) 0 ≡ cond b (cond a m 0) 0
cond_swap true true m = refl
cond_swap true false m = refl
cond_swap false true m = refl
cond_swap false false m = refl

-- ---- sums over the coordinates of a range

module _ (r : Range) where
  over : (ℕ → ℕ → ℕ) → ℕ
  over f = sum (λ row. sum (f row) r.left (suc (r.right - r.left))) r.top (suc (r.bottom - r.top))

  over_zero : over (λ row col. 0) ≡ 0
  unfolding over
  over_zero = sum_same _ (λ row. 0) r.top _ (λ row. sum_zero r.left _) ∙ sum_zero r.top _

  over_add : (f g : ℕ → ℕ → ℕ) → over (λ row col. f row col + g row col) ≡ over f + over g
  unfolding over
  over_add f g = sum_same _ _ r.top _ (λ row. sum_add (f row) (g row) r.left _) ∙ sum_add _ _ r.top _

  -- of m at one coordinate and 0 elsewhere: m, if the coordinate is in range
  over_only : upright r ≡ true → (at : CellCoordinate) (m : ℕ)
      → over (λ row col. cond (same_coordinate at (record { row = row; col = col })) m 0) ≡ cond (in_range r at) m 0
  unfolding over same_coordinate in_range
  over_only up at m =
      sum_same _ _ r.top _ along
      ∙ sum_through at.row (cond col_in m 0) r.top r.bottom (upright_true r up).0
      ∙ sym (cond_and row_in col_in m)
      ∙ ap (λ (b : Bool). cond b m 0) (sym (and_assoc row_in (leb r.left at.col) (leb at.col r.right)))
    where
      row_in : Bool
      row_in = leb r.top at.row && leb at.row r.bottom

      col_in : Bool
      col_in = leb r.left at.col && leb at.col r.right

      turned : (row col : ℕ) → cond (eqb at.row row && eqb at.col col) m 0 ≡ only at.col (only at.row m row) col
      turned row col = cond_and (eqb at.row row) (eqb at.col col) m ∙ cond_swap (eqb at.row row) (eqb at.col col) m

      along : (row : ℕ) → sum (λ col. cond (eqb at.row row && eqb at.col col) m 0) r.left (suc (r.right - r.left))
          ≡ only at.row (cond col_in m 0) row
      along row =
          sum_same _ _ r.left _ (turned row)
          ∙ sum_through at.col (only at.row m row) r.left r.right (upright_true r up).1
          ∙ cond_swap col_in (eqb at.row row) m

-- ---- keys

abbrev one_if : Bool → ℕ
one_if b = cond b 1 0

one_if_most : (b : Bool) → one_if b ≤ 1
one_if_most true = omega arith
one_if_most false = omega arith

one_if_true : (b : Bool) → (b ≡ true) ↔ (one_if b ≡ 1)
one_if_true true = (λ e. refl, λ e. refl)
one_if_true false = (λ e. absurd (false≢true e), λ e. absurd (omega arith))

module _ (pool : List ℕ) where
  free_key : (at : CellCoordinate) (cs : List CellAt) → Free at cs → has_key (key_at pool cs at) ≡ false
  free_key at cs f = go (has_key (key_at pool cs at)) refl
    where
      go : (b : Bool) → has_key (key_at pool cs at) ≡ b → b ≡ false
      go true e = let k = keyed_cell pool at cs e in absurd (free_none at k.among f k.here)
      go false e = refl

  -- a first cell adds its key at its own coordinate
  keys_more : (c : CellAt) (cs : List CellAt) (at : CellCoordinate) → Free c.at cs
      → one_if (has_key (key_at pool (c ∷ cs) at))
      ≡ cond (same_coordinate c.at at) (one_if (has_key (conditional_value_key pool c.cell))) 0 + one_if (has_key (key_at pool cs at))
  unfolding key_at cell_at
  keys_more c cs at f = go (same_coordinate c.at at) refl
    where
      own : ℕ
      own = one_if (has_key (conditional_value_key pool c.cell))

      go : (b : Bool) → same_coordinate c.at at ≡ b
          → one_if (has_key (key_of pool (cond b (some c.cell) (cell_at cs at)))) ≡ cond b own 0 + one_if (has_key (key_at pool cs at))
      go true same =
          let p = (same_coordinate_lem c.at at).0 same in
          omega (arith, ap one_if (subst (λ (q : CellCoordinate). has_key (key_at pool cs q) ≡ false) p (free_key c.at cs f)))
      go false same = omega arith

  keys_total : (r : Range) → upright r ≡ true → (cs : List CellAt) → Apart cs
      → over r (λ row col. one_if (has_key (key_at pool cs (record { row = row; col = col })))) ≡ keys_in pool r cs
  unfolding keys_in key_at cell_at has_key
  keys_total r up [] a = over_zero r
  keys_total r up (c ∷ cs) a =
      ap (over r) (fun_ext (λ row. fun_ext (λ col. keys_more c cs (record { row = row; col = col }) a.0)))
      ∙ over_add r _ _
      ∙ ap₂ ◌+◌ (over_only r up c.at _ ∙ sym (cond_and (in_range r c.at) (has_key (conditional_value_key pool c.cell)) 1))
      (keys_total r up cs a.1)

-- ---- the theorem

-- an upright range is covered exactly if as many cells in range have a key as the range has coordinates
pub covered_counted : (s : Sheet) (r : Range) → Rising s.cells → upright r ≡ true
    → (covered s r ≡ true) ↔ (keys_in s.pool r s.cells ≡ area r)
unfolding covered area over
covered_counted s r rising up = (λ e. sym total ∙ full.0 e ∙ size, λ e. full.1 (total ∙ e ∙ sym size))
  where
    width : ℕ
    width = suc (r.right - r.left)

    height : ℕ
    height = suc (r.bottom - r.top)

    along : (row : ℕ) → (each (keyed_at s row) r.left width ≡ true) ↔ (sum (λ col. one_if (keyed_at s row col)) r.left width ≡ width * 1)
    along row = each_sum (keyed_at s row) _ 1 (λ col. one_if_most (keyed_at s row col)) (λ col. one_if_true (keyed_at s row col)) r.left width

    full : (covered s r ≡ true) ↔ (over r (λ row col. one_if (keyed_at s row col)) ≡ height * (width * 1))
    full = each_sum _ _ (width * 1) (λ row. sum_most _ 1 r.left width (λ col. one_if_most (keyed_at s row col))) along r.top height

    total : over r (λ row col. one_if (keyed_at s row col)) ≡ keys_in s.pool r s.cells
    total = keys_total s.pool r up s.cells (rising_apart s.cells rising)

    size : height * (width * 1) ≡ height * width
    size = omega arith
