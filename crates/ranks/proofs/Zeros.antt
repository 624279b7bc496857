-- Floats that are equal as numbers are equal but for the sign of zero, which the count of those ahead of +0 tells. Assumes nothing.
use Rattle.std.proofs.Common.{◌≡◌, ℕ, ◌+◌, ◌*◌, Bool, true, false, cond, not, ◌&&◌, ◌||◌, T, eqb, pos, sym, refl, ◌∙◌, subst, inl, inr, true≢false, eq-zero-or-pos, mul-pos, zero-mul, arith, ltb-false, le-ltb, eqb-true}
use mathlib.Core.Bool.{or-false, and-true, false≢true}
use borrow.Author.Tests.{not-true}
use lib.Ieee.{Float, nan, inf, fin, binary64, div, below, level, lt, le, eq, fits}
use lib.Ieee.Positive.{num, den, den_pos}
use Rattle.model.specs.Readings.{finite}
use Rattle.model.specs.Ratio.{zero_f, one_f}
use Rattle.model.specs.Values.{negative, comes_before}
use Rattle.laws.proofs.Covered as covered
use Rattle.laws.proofs.FloatOrder.{Finite, lt_order, lt_crossed, eq_crossed, le_not_less, comes_before_level}
use Rattle.values.proofs.Signs as signs

abbrev pub minus_zero : Float
minus_zero = fin true 0 (pos 0)

-- ---- equal as numbers: neither is less

-- what a finite float is equal to is finite
pub eq_finite : (x y : Float) → Finite x → eq x y ≡ true → Finite y
unfolding eq finite
eq_finite nan y p e = absurd (false≢true p)
eq_finite (inf s) y p e = absurd (false≢true p)
eq_finite (fin s m k) nan p e = absurd (false≢true e)
eq_finite (fin s m k) (inf t) p e = absurd (false≢true e)
eq_finite (fin s m k) (fin t n d) p e = refl

level_not_below : (s t : Bool) (a b : ℕ) → level s a t b ≡ true → below s a t b ≡ false
level_not_below false false a b e = let h = eqb-true a b ((covered.and_true (eqb a b) _).0 e).0 in le-ltb a b (omega arith)
level_not_below false true a b e = refl
level_not_below true false a b e =
    let h = eqb-true a b ((covered.and_true (eqb a b) _).0 e).0 in
    let z = eqb-true a 0 ((covered.and_true (eqb a b) _).0 e).1 in
    le-ltb 0 (a + b) (omega arith)
level_not_below true true a b e = let h = eqb-true a b ((covered.and_true (eqb a b) _).0 e).0 in le-ltb b a (omega arith)

module _ (x y : Float) (p : Finite x) (q : Finite y) where
  pub eq_not_less : eq x y ≡ true → lt x y ≡ false
  eq_not_less e =
      lt_crossed x y p q
      ∙ level_not_below (negative x) (negative y) (num x * den y) (num y * den x) (sym (eq_crossed x y p q) ∙ e)

  pub eq_not_greater : eq x y ≡ true → lt y x ≡ false
  unfolding le
  eq_not_greater e = not-true (lt y x) (sym (le_not_less x y p q) ∙ (λ i. eq_not_less e i || e i))

-- ---- order with the zeros

-- no less, and no -0 ahead of a +0
not_ahead : (a b c d : Bool) → a ≡ false → (c ≡ true → d ≡ true) → a || (b && c && not d) ≡ false
not_ahead true b c d p q = absurd (true≢false p)
not_ahead false false c d p q = refl
not_ahead false true true true p q = refl
not_ahead false true true false p q = absurd (false≢true (q refl))
not_ahead false true false d p q = refl

ahead_sign : (a b c d : Bool) → a ≡ false → a || (b && c && not d) ≡ true → c ≡ true
ahead_sign true b c d p e = absurd (true≢false p)
ahead_sign false false c d p e = absurd (false≢true e)
ahead_sign false true true d p e = refl
ahead_sign false true false d p e = absurd (false≢true e)

not_before : (x y : Float) → lt x y ≡ false → (negative x ≡ true → negative y ≡ true) → comes_before x y ≡ false
unfolding comes_before
not_before x y e h = not_ahead (lt x y) (eq x y) (negative x) (negative y) e h

before_sign : (x y : Float) → lt x y ≡ false → comes_before x y ≡ true → negative x ≡ true
unfolding comes_before
before_sign x y e h = ahead_sign (lt x y) (eq x y) (negative x) (negative y) e h

-- ---- a zero

pub zero_finite : Finite zero_f
unfolding finite
zero_finite = refl

minus_finite : Finite minus_zero
unfolding finite
minus_finite = refl

zero_fits : T (fits binary64 zero_f)
unfolding fits
zero_fits = tt

minus_fits : T (fits binary64 minus_zero)
unfolding fits
minus_fits = tt

zero_sign : negative zero_f ≡ false
unfolding negative
zero_sign = refl

minus_sign : negative minus_zero ≡ true
unfolding negative
minus_sign = refl

zeros_level : (lt minus_zero zero_f ≡ false) × (lt zero_f minus_zero ≡ false)
unfolding lt
zeros_level = (refl, refl)

module _ (v : Float) (p : Finite v) (h : T (fits binary64 v)) (d : lt v zero_f ≡ false) (e : lt zero_f v ≡ false) where
  pub is_zero : comes_before v zero_f ≡ false → v ≡ zero_f
  is_zero f =
      comes_before_level binary64 v zero_f h zero_fits p zero_finite f
      (not_before zero_f v e (λ n. absurd (false≢true (sym zero_sign ∙ n))))

  pub is_minus_zero : comes_before v zero_f ≡ true → v ≡ minus_zero
  is_minus_zero f =
      let down = lt_order.following minus_zero zero_f v minus_finite zero_finite p zeros_level.1 d in
      let up = lt_order.following v zero_f minus_zero p zero_finite minus_finite e zeros_level.0 in
      comes_before_level binary64 v minus_zero h minus_fits p minus_finite (not_before v minus_zero down (λ n. minus_sign))
      (not_before minus_zero v up (λ n. before_sign v zero_f d f))

-- ---- no zero

level_zeros : (s t : Bool) → level s 0 t 0 ≡ true
level_zeros false false = refl
level_zeros false true = refl
level_zeros true false = refl
level_zeros true true = refl

-- a float with the magnitude 0 is a zero
no_magnitude : (t : Float) → Finite t → num t ≡ 0 → eq t zero_f ≡ true
no_magnitude t p e =
    eq_crossed t zero_f p zero_finite ∙ subst (λ (n : ℕ). level (negative t) (n * 1) (negative zero_f) (0 * 1 * den t) ≡ true) (sym e)
    (rw (zero-mul (den t)) (level_zeros (negative t) (negative zero_f)))

-- what a negative number is not less than is negative, if not both are zeros
sign_down : (x y : Float) → Finite x → Finite y → (num x * den y + num y * den x ≡ 0 → ⊥) → lt x y ≡ false → negative x ≡ true
    → negative y ≡ true
sign_down x y p q some d n = decided (negative y) refl
  where
    a : ℕ
    a = num x * den y

    b : ℕ
    b = num y * den x

    decided : (t : Bool) → negative y ≡ t → negative y ≡ true
    decided true m = m
    decided false m =
        let f : below true a false b ≡ false = (λ i. below (sym n i) a (sym m i) b) ∙ sym (lt_crossed x y p q) ∙ d in
        absurd (some (omega (arith, ltb-false 0 (a + b) f)))

-- numbers that are equal, and no zeros, are equal as data
module _ (t v : Float) (p : Finite t) (q : Finite v) (d : lt t v ≡ false) (e : lt v t ≡ false) (z : eq t zero_f ≡ false) where
  some : num t * den v ≡ 0 → ⊥
  some k = elim (eq-zero-or-pos (num t)) [
    | inl n ↦ true≢false (sym (no_magnitude t p n) ∙ z)
    | inr n ↦ omega (arith, mul-pos n (den_pos v))
  ]

  pub same_number : T (fits binary64 t) → T (fits binary64 v) → t ≡ v
  same_number g h =
      comes_before_level binary64 t v g h p q
      (not_before t v d (sign_down t v p q (λ (k : num t * den v + num v * den t ≡ 0). some (omega (arith, k))) d))
      (not_before v t e (sign_down v t q p (λ (k : num v * den t + num t * den v ≡ 0). some (omega (arith, k))) e))

-- what is equal to a zero as a number is neither less nor greater than +0
pub level_zero : (t v : Float) → Finite t → Finite v → lt t v ≡ false → lt v t ≡ false → eq t zero_f ≡ true
    → (lt v zero_f ≡ false) × (lt zero_f v ≡ false)
level_zero t v p q d e z = (
  lt_order.following zero_f t v zero_finite p q (eq_not_less t zero_f p zero_finite z) e,
  lt_order.following v t zero_f q p zero_finite d (eq_not_greater t zero_f p zero_finite z),
)

-- ---- the sign of a zero by its inverse

zero_is_finite : (x : Float) → eq x zero_f ≡ true → Finite x
unfolding eq finite
zero_is_finite nan e = absurd (false≢true e)
zero_is_finite (inf s) e = absurd (false≢true e)
zero_is_finite (fin s m d) e = refl

-- before +0 are the negative numbers and -0
pub before_zero : (x : Float) → comes_before x zero_f ≡ cond (eq x zero_f) (lt (div binary64 one_f x) zero_f) (lt x zero_f)
unfolding comes_before negative
before_zero x = decided (eq x zero_f) refl
  where
    decided : (b : Bool) → eq x zero_f ≡ b
        → lt x zero_f || (b && negative x && true) ≡ cond b (lt (div binary64 one_f x) zero_f) (lt x zero_f)
    decided true e =
        (λ i. eq_not_less x zero_f (zero_is_finite x e) zero_finite e i || (negative x && true))
        ∙ and-true (negative x) ∙ sym (signs.zero_sign x e)
    decided false e = or-false (lt x zero_f)
