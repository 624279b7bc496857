-- The ranges of ratio and colour: a ratio is at most 1,000,000 for any three floats, its bar fills at most 40 cells, none exactly at 0 and
-- never fewer at a greater ratio, and a channel is at most 255. Assumes nothing.
use mathlib.Core.Path.{◌≡◌, refl, subst}
use mathlib.Core.Logic.{◌↔◌}
use mathlib.Core.Bool.{Bool, true, false, cond, ◌&&◌, ◌||◌}
use Prim.Native.Nat.{ℕ, ◌+◌, ◌*◌, ◌/◌, ◌≤◌, ◌<◌, min, max}
use native.Mathlib.Nat.{le_refl, le_of_eq, le_of_lt, mul-pos, div-lt_iff_lt-mul}
use native.Mathlib.Omega.{arith}
use lib.Dec.{T, ltb, eqb, ltb→lt, eqb→eq, lit<, lit≤}
use lib.IntN.{ℤ, pos, negsuc}
use lib.Ieee.{Float, nan, inf, fin, binary64, up, down, round, mul, lt, le}
use lib.Ieee.Fits.{down_pos}
use lib.Ieee.Order.{round_mono}
use lib.Ieee.Scale.{round_same}
use borrow.Author.Tests.{ltb-false, eqb-true, eqb-false}
use Rattle.model.proofs.RatioParts.{ratio_is}
use Rattle.model.specs.Ratio.{zero_f, one_f, million_f, held_to_unit, rounded, quotient, ratio, bar_cells, held_to_byte, channel}

-- ---- ratio

at_most_of_le : (a b : ℕ) → T (ltb a b || (eqb a b && true)) → a ≤ b
at_most_of_le a b h = by (ltb a b) (eqb a b) (ltb→lt a b) (eqb→eq a b) h
  where
    by : (s t : Bool) → (T s → a < b) → (T t → a ≡ b) → T (s || (t && true)) → a ≤ b
    by true t f g h = le_of_lt (f tt)
    by false true f g h = le_of_eq (g tt)
    by false false f g h = absurd h

-- what is not above 1,000,000 rounds to at most that
rounded_at_most : (x : Float) → T (le x million_f) → rounded x ≤ 1_000_000
unfolding le rounded
rounded_at_most nan h = lit≤ tt
rounded_at_most (inf true) h = lit≤ tt
rounded_at_most (inf false) h = absurd h
rounded_at_most (fin true m e) h = lit≤ tt
rounded_at_most (fin false m e) h =
    let l : m * up e * 1 ≤ 1_000_000 * down e = at_most_of_le _ _ h in
    let D : 0 < down e = down_pos e in
    let q : (2 * (m * up e) + down e) / (2 * down e) < 1_000_001 = (div-lt_iff_lt-mul (mul-pos (lit< tt) D)).1 (omega arith) in
    omega arith

-- a float of 0..1 times 1,000,000: `round` keeps the order, and 1,000,000 is a float
product_at_most : (m : ℕ) (e : ℤ) → m * up e ≤ down e → T (le (mul binary64 (fin false m e) million_f) million_f)
unfolding mul round
product_at_most m e h =
    round_mono binary64 (m * up e * 1_000_000) (down e * 1) 1_000_000 1 (mul-pos (down_pos e) (lit< tt)) (lit< tt) (omega arith)

-- -0 stays
product_of_nought : (m : ℕ) (e : ℤ) → m * up e ≡ 0 → mul binary64 (fin true m e) million_f ≡ fin true 0 (pos 0)
unfolding mul round
product_of_nought m e h =
    round_same binary64 true (m * up e * 1_000_000) (down e * 1) 0 1 (mul-pos (down_pos e) (lit< tt)) (lit< tt) (omega arith)

-- by the two tests of `held_to_unit`
held_at_most : (x : Float) (s t : Bool) → lt x zero_f ≡ s → lt one_f x ≡ t
    → rounded (mul binary64 (cond s zero_f (cond t one_f x)) million_f) ≤ 1_000_000
unfolding lt mul rounded
held_at_most x true t h k = lit≤ tt
held_at_most x false true h k = lit≤ tt
held_at_most nan false false h k = lit≤ tt
held_at_most (inf true) false false h k = absurd (subst T h tt)
held_at_most (inf false) false false h k = absurd (subst T k tt)
held_at_most (fin true m e) false false h k =
    let z : m * up e * 1 + 0 * 1 * down e ≤ 0 = ltb-false _ _ h in
    rw (product_of_nought m e (omega arith)) (lit≤ tt)
held_at_most (fin false m e) false false h k =
    let l : m * up e * 1 ≤ 1 * 1 * down e = ltb-false _ _ k in
    rounded_at_most _ (product_at_most m e (omega arith))

pub ratio_at_most : (v a b : Float) → ratio v a b ≤ 1_000_000
unfolding held_to_unit
ratio_at_most v a b = rw ratio_is (flat (le b a))
  where
    flat : (t : Bool) → cond t 1_000_000 (rounded (mul binary64 (held_to_unit (quotient v a b)) million_f)) ≤ 1_000_000
    flat true = le_refl 1_000_000
    flat false = held_at_most (quotient v a b) (lt (quotient v a b) zero_f) (lt one_f (quotient v a b)) refl refl

-- ---- bar

-- both cases of the definition in one equation, as `arith` takes it
cells_are : (ppm : ℕ) → bar_cells ppm ≡ min ppm (max 1 (40 * ppm / 1_000_000))
unfolding bar_cells
cells_are ppm = by (eqb ppm 0) refl
  where
    by : (t : Bool) → eqb ppm 0 ≡ t → cond t 0 (max 1 (40 * ppm / 1_000_000)) ≡ min ppm (max 1 (40 * ppm / 1_000_000))
    by true h = omega (arith, eqb-true ppm 0 h)
    by false h = omega (arith, eqb-false ppm 0 h)

-- a finger tells a bar of 0 ppm from every other
pub bar_cells_none : (ppm : ℕ) → (bar_cells ppm ≡ 0) ↔ (ppm ≡ 0)
bar_cells_none ppm = (λ h. omega (arith, h, cells_are ppm), λ h. omega (arith, h, cells_are ppm))

pub bar_cells_rise : (a b : ℕ) → a ≤ b → bar_cells a ≤ bar_cells b
bar_cells_rise a b h = omega (arith, h, cells_are a, cells_are b)

-- where forty times the ppm, cut down, is 0, and where it is not
pub bar_cells_short : (ppm : ℕ) → 0 < ppm → ppm < 25_000 → bar_cells ppm ≡ 1
bar_cells_short ppm h k = omega (arith, h, k, cells_are ppm)

pub bar_cells_cut : (ppm : ℕ) → 25_000 ≤ ppm → bar_cells ppm ≡ 40 * ppm / 1_000_000
bar_cells_cut ppm h = omega (arith, h, cells_are ppm)

pub bar_cells_at_most : (ppm : ℕ) → ppm ≤ 1_000_000 → bar_cells ppm ≤ 40
bar_cells_at_most ppm h = omega (arith, h, cells_are ppm)

pub ratio_cells_at_most : (v a b : Float) → bar_cells (ratio v a b) ≤ 40
ratio_cells_at_most v a b = bar_cells_at_most (ratio v a b) (ratio_at_most v a b)

-- ---- colour

held_to_byte_at_most : (z : ℤ) → held_to_byte z ≤ 255
unfolding held_to_byte
held_to_byte_at_most (pos n) = omega arith
held_to_byte_at_most (negsuc n) = lit≤ tt

pub channel_at_most : (start end ppm : ℕ) → channel start end ppm ≤ 255
unfolding channel
channel_at_most start end ppm = held_to_byte_at_most _
