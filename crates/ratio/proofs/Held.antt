-- A float held to 0..1, with 0 for -0 and not-a-number: a million times it is from 0 to 1,000,000, and rounds as a million times what the
-- definition holds it to. So a ratio is at most 1,000,000, and between ends that are not flat it is a place in a span. Assumes nothing.
use mathlib.Core.Path.{◌≡◌, refl, sym, ap, ◌∙◌, subst}
use mathlib.Core.Bool.{Bool, true, false, cond, not}
use Prim.Native.Nat.{ℕ, ◌+◌, ◌*◌, ◌/◌, ◌^◌, ◌≤◌, ◌<◌}
use native.Mathlib.Nat.{mul-pos, mul_right_comm, div-lt_iff_lt-mul}
use native.Mathlib.Omega.{arith}
use lib.Dec.{T, not_T, ltb, ltb→lt, leb→le, le→leb, lit<, lit≤}
use lib.IntN.{ℤ, pos}
use lib.Ieee.{Float, nan, inf, fin, binary64, low, up, down, unlike, odd, units, round, sub, mul, lt, le}
use lib.Ieee.Bits.{is_false}
use lib.Ieee.Exact.{HasValue, odd_sign}
use lib.Ieee.Fits.{down_pos, round_is}
use lib.Ieee.Order.{round_mono}
use lib.Ieee.Scale.{round_same}
use borrow.Author.Tests.{ltb-true, ltb-false}
use Rattle.model.specs.Ratio.{zero_f, one_f, million_f, held_to_unit, rounded, quotient, ratio}
use Rattle.model.proofs.RatioParts.{ratio_is}
use Rattle.ratio.specs.UpTo.{up_to}
use Rattle.ratio.specs.Spanned.{spanned}
use Rattle.ratio.proofs.Rounding.{at_most_of_le}

-- ---- the product

abbrev pub millionfold : Float → Float
millionfold x = mul binary64 x million_f

-- of equal numbers
same_product : (s : Bool) (m n : ℕ) (e k : ℤ) → m * up e * down k ≡ n * up k * down e → millionfold (fin s m e) ≡ millionfold (fin s n k)
unfolding mul
same_product s m n e k h =
    let p = mul_right_comm (m * up e) 1_000_000 (down k) in
    let q = mul_right_comm (n * up k) 1_000_000 (down e) in
    round_same binary64 (unlike s false) (m * up e * 1_000_000) (down e * 1) (n * up k * 1_000_000) (down k * 1) (mul-pos (down_pos e) (lit< tt)) (mul-pos (down_pos k) (lit< tt)) (omega arith)

-- neither negative nor -0
abbrev plain : Float → Bool
plain nan = true
plain (inf s) = not s
plain (fin s m e) = not s

plain_of_value : (z : Float) (a c : ℕ) → HasValue z false a c → T (plain z)
plain_of_value nan a c v = tt
plain_of_value (inf s) a c v = absurd v
plain_of_value (fin s m e) a c v = subst (λ (t : Bool). T (not t)) (sym v.0) tt

units_plain : (q k : ℕ) → T (plain (units binary64 false q k))
unfolding units
units_plain q k = by (ltb (q * 2 ^ k) (2 ^ (low binary64 + 1024)))
  where
    by : (t : Bool) → T (plain (cond t (odd 54 false q k (low binary64)) (inf false)))
    by true = plain_of_value (odd 54 false q k (low binary64)) (q * 2 ^ k) (2 ^ low binary64) (odd_sign 54 false q k (low binary64))
    by false = tt

round_plain : (a b : ℕ) → T (plain (round binary64 false a b))
round_plain a b = subst (λ (z : Float). T (plain z)) (sym (round_is binary64 false a b)) (units_plain _ _)

up_to_of_le : (z : Float) → T (plain z) → T (le z million_f) → T (up_to 1_000_000 z)
unfolding le up_to
up_to_of_le nan p h = absurd h
up_to_of_le (inf true) p h = absurd p
up_to_of_le (inf false) p h = absurd h
up_to_of_le (fin true m e) p h = absurd p
up_to_of_le (fin false m e) p h =
    let l : m * up e * 1 ≤ 1_000_000 * down e = at_most_of_le _ _ h in
    le→leb (m * up e) (1_000_000 * down e) (omega arith)

-- `round` keeps the order, and 1,000,000 is a float
pub product_up_to : (x : Float) → T (up_to 1 x) → T (up_to 1_000_000 (millionfold x))
unfolding up_to mul round
product_up_to nan h = absurd h
product_up_to (inf s) h = absurd h
product_up_to (fin true m e) h = absurd h
product_up_to (fin false m e) h =
    let l : m * up e ≤ 1 * down e = leb→le _ _ h in
    up_to_of_le (millionfold (fin false m e)) (round_plain (m * up e * 1_000_000) (down e * 1))
    (round_mono binary64 (m * up e * 1_000_000) (down e * 1) 1_000_000 1 (mul-pos (down_pos e) (lit< tt)) (lit< tt) (omega arith))

-- ---- the three ways of the code

pub record Held (x r : Float) : Type 0 where
  pub unit : T (up_to 1 r)
  pub same : rounded (millionfold r) ≡ rounded (millionfold (held_to_unit x))

not_below : (a b : ℕ) → b ≤ a → ltb a b ≡ false
not_below a b h = is_false (ltb a b) (not_T (ltb a b) (λ t. let l = ltb→lt a b t in omega arith))

-- from 0 to 1 it stays
stays : (m : ℕ) (e : ℤ) → m * up e ≤ down e → rounded (millionfold (fin false m e)) ≡ rounded (millionfold (held_to_unit (fin false m e)))
unfolding lt held_to_unit
stays m e h =
    let low = not_below (m * up e * 1) (0 * 1 * down e) (omega arith) in
    let high = not_below (1 * 1 * down e) (m * up e * 1) (omega arith) in
    by (ltb (m * up e * 1) (0 * 1 * down e)) (ltb (1 * 1 * down e) (m * up e * 1)) low high
  where
    by : (s t : Bool) → s ≡ false → t ≡ false
        → rounded (millionfold (fin false m e)) ≡ rounded (millionfold (cond s zero_f (cond t one_f (fin false m e))))
    by s t p q = simp (p, q)

pub held_inside : (x : Float) → lt zero_f x ≡ true → lt x one_f ≡ true → Held x x
unfolding lt up_to
held_inside nan h k = absurd (subst T (sym h) tt)
held_inside (inf true) h k = absurd (subst T (sym h) tt)
held_inside (inf false) h k = absurd (subst T (sym k) tt)
held_inside (fin true m e) h k = absurd (subst T (sym h) tt)
held_inside (fin false m e) h k =
    let l : m * up e * 1 < 1 * 1 * down e = ltb-true _ _ k in
    record {
      unit = le→leb (m * up e) (1 * down e) (omega arith);
      same = stays m e (omega arith);
    }

pub held_above : (x : Float) → lt zero_f x ≡ true → lt x one_f ≡ false → Held x one_f
unfolding lt up_to held_to_unit
held_above nan h k = absurd (subst T (sym h) tt)
held_above (inf true) h k = absurd (subst T (sym h) tt)
held_above (inf false) h k = record { unit = tt; same = refl }
held_above (fin true m e) h k = absurd (subst T (sym h) tt)
held_above (fin false m e) h k =
    let l : 1 * 1 * down e ≤ m * up e * 1 = ltb-false _ _ k in
    record {
      unit = tt;
      same =
          by (ltb (m * up e * 1) (0 * 1 * down e)) (ltb (1 * 1 * down e) (m * up e * 1))
          (not_below (m * up e * 1) (0 * 1 * down e) (omega arith))
          (λ g. same_product false 1 m (pos 0) e (let l' = ltb-false (1 * 1 * down e) (m * up e * 1) g in omega arith));
    }
  where
    by : (s t : Bool) → s ≡ false → (t ≡ false → millionfold one_f ≡ millionfold (fin false m e))
        → rounded (millionfold one_f) ≡ rounded (millionfold (cond s zero_f (cond t one_f (fin false m e))))
    by true t p f = absurd (subst T p tt)
    by false true p f = refl
    by false false p f = ap rounded (f refl)

pub held_below : (x : Float) → lt zero_f x ≡ false → Held x zero_f
unfolding lt up_to held_to_unit mul rounded
held_below nan h = record { unit = tt; same = refl }
held_below (inf true) h = record { unit = tt; same = refl }
held_below (inf false) h = absurd (subst T h tt)
held_below (fin true m e) h =
    let a = m * up e * 1 + 0 * 1 * down e in
    record { unit = tt; same = by (ltb 0 a) (λ g. let l = ltb-false 0 a g in same_product true 0 m (pos 0) e (omega arith)) }
  where
    by : (s : Bool) → (s ≡ false → millionfold (fin true 0 (pos 0)) ≡ millionfold (fin true m e)) → 0 ≡ rounded (millionfold (cond s zero_f (fin true m e)))
    by true f = refl
    by false f = ap rounded (f refl)
held_below (fin false m e) h =
    let l : m * up e * 1 ≤ 0 * 1 * down e = ltb-false _ _ h in
    record {
      unit = tt;
      same = ap rounded (same_product false 0 m (pos 0) e (omega arith)) ∙ stays m e (omega arith);
    }

-- ---- so a ratio is at most 1,000,000

rounded_up_to : (x : Float) → T (up_to 1_000_000 x) → rounded x ≤ 1_000_000
unfolding up_to rounded
rounded_up_to nan h = absurd h
rounded_up_to (inf s) h = absurd h
rounded_up_to (fin true m e) h = absurd h
rounded_up_to (fin false m e) h =
    let l : m * up e ≤ 1_000_000 * down e = leb→le _ _ h in
    let D = down_pos e in
    let q : (2 * (m * up e) + down e) / (2 * down e) < 1_000_001 = (div-lt_iff_lt-mul (mul-pos (lit< tt) D)).1 (omega arith) in
    omega arith

held_at_most : (x r : Float) → Held x r → rounded (millionfold (held_to_unit x)) ≤ 1_000_000
held_at_most x r h = subst (λ (n : ℕ). n ≤ 1_000_000) h.same (rounded_up_to (millionfold r) (product_up_to r h.unit))

unit_at_most : (q : Float) → rounded (millionfold (held_to_unit q)) ≤ 1_000_000
unit_at_most q = by (lt zero_f q) (lt q one_f) refl refl
  where
    by : (s t : Bool) → lt zero_f q ≡ s → lt q one_f ≡ t → rounded (millionfold (held_to_unit q)) ≤ 1_000_000
    by true true h k = held_at_most q q (held_inside q h k)
    by true false h k = held_at_most q one_f (held_above q h k)
    by false t h k = held_at_most q zero_f (held_below q h)

pub spanned_at_most : (v low span : Float) → spanned v low span ≤ 1_000_000
unfolding spanned
spanned_at_most v low span = unit_at_most _

pub ratio_at_most : (v a b : Float) → ratio v a b ≤ 1_000_000
ratio_at_most v a b = rw ratio_is (flat (le b a))
  where
    flat : (t : Bool) → cond t 1_000_000 (rounded (millionfold (held_to_unit (quotient v a b)))) ≤ 1_000_000
    flat true = lit≤ tt
    flat false = unit_at_most (quotient v a b)

-- ---- of ends that are not flat

pub ratio_spanned : (v a b : Float) → le b a ≡ false → ratio v a b ≡ spanned v a (sub binary64 b a)
unfolding quotient spanned
ratio_spanned v a b rises = rw (ratio_is, rises)

-- of three
pub among_spanned : (v least midpoint greatest : Float) → le midpoint least ≡ false → le greatest midpoint ≡ false
    → cond (le v midpoint) (spanned v least (sub binary64 midpoint least)) (1_000_000 + spanned v midpoint (sub binary64 greatest midpoint))
    ≡ cond (le v midpoint) (ratio v least midpoint) (1_000_000 + ratio v midpoint greatest)
among_spanned v least midpoint greatest lower upper = rw (ratio_spanned v least midpoint lower, ratio_spanned v midpoint greatest upper)
