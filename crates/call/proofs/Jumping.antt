-- From a place out of range to a later one, over coordinates that rise: where the last of some places stands in the same row on the same
-- side of the range's columns, or in the next row ahead of them, all these places are out of range. And places out of range add nothing to
-- the cells in range, nor to the indices in range. Assumes nothing.
use Prim.Native.Nat.{ℕ, zero, suc, ◌+◌, ◌-◌, ◌≤◌, ◌<◌}
use native.Mathlib.Nat.{add-zero, zero-add}
use native.Mathlib.Omega.{arith}
use mathlib.Core.Path.{◌≡◌, refl, sym}
use mathlib.Core.Logic.{◌⊎◌, inl, inr}
use mathlib.Core.Bool.{Bool, true, false, ◌&&◌, ◌||◌, and-false, false≢true}
use mathlib.Core.List.{List}
use mathlib.Core.Option.{none}
use lib.Dec.{ltb, leb, eqb}
use lib.ListN.{length, get_or}
use borrow.Author.Tests.{lt-leb, ltb-true, ltb-false, eqb-true, leb-false}
use Rattle.model.specs.declared.Range.{Range}
use Rattle.model.specs.Job.{first_fall}
use Rattle.laws.proofs.Rising.{Before, before_later}
use Rattle.hits.specs.Hits.{column_in}
use Rattle.turns.proofs.Bands.{rows_rise}
use Rattle.call.specs.Tables.{inside_from}

-- ---- a column out of range

module _ (range : Range) (col : ℕ) where
  pub short_out : col < range.left → column_in range col ≡ false
  unfolding column_in
  short_out h = rw (lt-leb range.left col h)

  pub past_out : range.right < col → column_in range col ≡ false
  unfolding column_in
  past_out h = rw (lt-leb col range.right h, and-false)

  pub out_sides : column_in range col ≡ false → (col < range.left) ⊎ (range.right < col)
  unfolding column_in
  out_sides e = go (leb range.left col) refl (leb col range.right) refl e
    where
      go : (x : Bool) → leb range.left col ≡ x → (y : Bool) → leb col range.right ≡ y → x && y ≡ false
          → (col < range.left) ⊎ (range.right < col)
      go false l y m e = inl (leb-false range.left col l)
      go true l false m e = inr (leb-false col range.right m)
      go true l true m e = absurd (false≢true (sym e))

-- one more place out of range
pub out_more : (range : Range) (cols : List ℕ) (i j : ℕ) → ((k : ℕ) → i ≤ k → k < j → column_in range (get_or cols k 0) ≡ false)
    → column_in range (get_or cols j 0) ≡ false → (k : ℕ) → i ≤ k → k < j + 1 → column_in range (get_or cols k 0) ≡ false
out_more range cols i j out here k a b = go (ltb k j) refl
  where
    go : (x : Bool) → ltb k j ≡ x → column_in range (get_or cols k 0) ≡ false
    go true e = out k a (ltb-true k j e)
    go false e = let same : k ≡ j = omega (arith, ltb-false k j e) in rw same here

-- ---- a jump

-- at or after another place: in a later row, or in the same row and not in an earlier column
abbrev Onward : List ℕ → List ℕ → ℕ → ℕ → Type 0
Onward rows cols i k = (get_or rows i 0 < get_or rows k 0) ⊎ ((get_or rows i 0 ≡ get_or rows k 0) × (get_or cols i 0 ≤ get_or cols k 0))

module _ (rows cols : List ℕ) (rise : first_fall rows cols ≡ none) where
  onward : (i k : ℕ) → i ≤ k → k < length rows → Onward rows cols i k
  unfolding Before
  onward i k a b = go (k - i) (omega arith)
    where
      go : (n : ℕ) → i + n ≡ k → Onward rows cols i k
      go zero e = let same : i ≡ k = omega arith in rw same (inr (refl, omega arith))
      go (suc n) e = rw (← e) (later (before_later rows cols rise i n (omega arith)))
        where
          later : (get_or rows i 0 < get_or rows (i + suc n) 0)
              ⊎ ((get_or rows i 0 ≡ get_or rows (i + suc n) 0) × (get_or cols i 0 < get_or cols (i + suc n) 0)) → Onward rows cols i (i + suc n)
          later (inl h) = inl h
          later (inr h) = inr (h.0, omega (arith, h.1))

  module _ (range : Range) (i last : ℕ) (h : last < length rows) (out : column_in range (get_or cols i 0) ≡ false) where
    -- in one row, on one side
    in_row : get_or rows last 0 ≡ get_or rows i 0 → (range.right < get_or cols i 0) ⊎ (get_or cols last 0 < range.left) → (k : ℕ) → i ≤ k
        → k ≤ last → column_in range (get_or cols k 0) ≡ false
    in_row same side k a b = go (onward i k a (omega arith)) (onward k last b h) side
      where
        go : Onward rows cols i k → Onward rows cols k last → (range.right < get_or cols i 0) ⊎ (get_or cols last 0 < range.left)
            → column_in range (get_or cols k 0) ≡ false
        go (inl p) (inl q) s = absurd (omega arith)
        go (inl p) (inr q) s = absurd (omega arith)
        go (inr p) (inl q) s = absurd (omega arith)
        go (inr p) (inr q) (inl s) = past_out range _ (omega arith)
        go (inr p) (inr q) (inr s) = short_out range _ (omega arith)

    -- over the end of a row
    to_next_row : get_or rows last 0 ≡ get_or rows i 0 + 1 → range.right < get_or cols i 0 → get_or cols last 0 < range.left → (k : ℕ) → i ≤ k
        → k ≤ last → column_in range (get_or cols k 0) ≡ false
    to_next_row next past short k a b = go (onward i k a (omega arith)) (onward k last b h)
      where
        go : Onward rows cols i k → Onward rows cols k last → column_in range (get_or cols k 0) ≡ false
        go (inl p) (inl q) = absurd (omega arith)
        go (inl p) (inr q) = short_out range _ (omega arith)
        go (inr p) q = past_out range _ (omega arith)

    -- as the code tells it
    pub jump_told : i ≤ last → (eqb (get_or rows last 0 - get_or rows i 0) 0
        && (ltb range.right (get_or cols i 0) || ltb (get_or cols last 0) range.left))
        || ((eqb (get_or rows last 0 - get_or rows i 0) 1 && ltb range.right (get_or cols i 0)) && ltb (get_or cols last 0) range.left)
        ≡ true → (k : ℕ) → i ≤ k → k ≤ last → column_in range (get_or cols k 0) ≡ false
    jump_told up e =
        go (eqb (get_or rows last 0 - get_or rows i 0) 0) refl (eqb (get_or rows last 0 - get_or rows i 0) 1) refl
        (ltb range.right (get_or cols i 0)) refl (ltb (get_or cols last 0) range.left) refl e
      where
        down : (n : ℕ) → eqb (get_or rows last 0 - get_or rows i 0) n ≡ true → get_or rows last 0 ≡ get_or rows i 0 + n
        down n e =
            omega (arith, eqb-true (get_or rows last 0 - get_or rows i 0) n e, rows_rise rows cols rise i last up h)

        go : (same : Bool) → eqb (get_or rows last 0 - get_or rows i 0) 0 ≡ same → (next : Bool)
            → eqb (get_or rows last 0 - get_or rows i 0) 1 ≡ next → (past : Bool) → ltb range.right (get_or cols i 0) ≡ past
            → (short : Bool) → ltb (get_or cols last 0) range.left ≡ short
            → (same && (past || short)) || ((next && past) && short) ≡ true → (k : ℕ) → i ≤ k → k ≤ last
            → column_in range (get_or cols k 0) ≡ false
        go true p next q true r short s e = in_row (omega (arith, down 0 p)) (inl (ltb-true _ _ r))
        go true p next q false r true s e = in_row (omega (arith, down 0 p)) (inr (ltb-true _ _ s))
        go true p true q false r false s e = absurd (false≢true e)
        go true p false q false r false s e = absurd (false≢true e)
        go false p true q true r true s e = to_next_row (down 1 q) (ltb-true _ _ r) (ltb-true _ _ s)
        go false p true q true r false s e = absurd (false≢true e)
        go false p true q false r short s e = absurd (false≢true e)
        go false p false q past r short s e = absurd (false≢true e)

-- ---- indices in range

module _ (range : Range) (cols : List ℕ) where
  -- places out of range are left out
  pub inside_skips : (m i n : ℕ) → ((k : ℕ) → i ≤ k → k < i + m → column_in range (get_or cols k 0) ≡ false)
      → inside_from range cols i (m + n) ≡ inside_from range cols (i + m) n
  unfolding inside_from
  inside_skips zero i n out = rw (add-zero i, zero-add n)
  inside_skips (suc m) i n out =
      let e : suc m + n ≡ suc (m + n) = omega arith in
      let f : i + suc m ≡ suc i + m = omega arith in
      rw (e, f, out i (omega arith) (omega arith)) (inside_skips m (suc i) n (λ k a b. out k (omega arith) (omega arith)))
