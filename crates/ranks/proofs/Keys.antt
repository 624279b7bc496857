-- Keys rise with the finite floats, and between the floats of a key and the next there is none. Assumes nothing.
use Rattle.std.proofs.Common.{◌≡◌, ℕ, zero, suc, ◌+◌, ◌-◌, ◌*◌, ◌/◌, ◌%◌, ◌^◌, ◌<◌, ◌≤◌, Bool, true, false, cond, not, ◌&&◌, ◌||◌}
use Rattle.std.proofs.Common.{T, eqb, ltb, leb, ℤ, sym, refl, ap, ◌∙◌, subst, inl, inr, true≢false, le_trans, le_of_eq}
use Rattle.std.proofs.Common.{lt_of_lt_of_le, lt_of_le_of_lt, le_of_lt, add_assoc, mul-le-mul_right, div-lt_iff_lt-mul}
use Rattle.std.proofs.Common.{eq-or-lt_of_le, mul-lt-mul_of_pos_right, mul-pos, le-div_iff_mul-le, zero-mul, mul_right_comm, arith}
use Rattle.std.proofs.Common.{ltb→lt, pow_pos, pow-add, ltb-false, ltb-true, le-ltb, lt-ltb}
use mathlib.Core.Bool.{false≢true}
use lib.Ieee.{Float, nan, inf, fin, binary64, top, up, down, size, below, lt, le, eq, fits, is_nan, to_bits, of_bits}
use lib.Ieee.Digits.{size-lt, size-le, size_reaches}
use lib.Ieee.Fits.{kept-lt, and_r, down_pos}
use lib.Ieee.Positive.{num, den, den_pos}
use lib.Ieee.Nearest.{div_mono}
use lib.Ieee.Bits.{of_bits-to_bits, to_bits-lt, of_bits-fits, to_bits-of_bits, nan_bits_is, nan_bits_above}
use Rattle.model.specs.Readings.{finite}
use Rattle.model.specs.Values.{negative}
use Rattle.laws.proofs.Sorting.{order_irreflexive}
use Rattle.laws.proofs.FloatOrder.{Finite, lt_order, lt_crossed, le_not_less}
use Rattle.ranks.specs.Keys.{bits_of_key, of_key}

-- the key of a bit pattern, and of a float
abbrev key_of_bits : ℕ → ℕ
key_of_bits bits = cond (ltb bits (2 ^ 63)) (2 ^ 63 + bits) (2 ^ 64 - 1 - bits)

unfoldable key_of : Float → ℕ
key_of x = key_of_bits (to_bits binary64 x)

-- the magnitude of an infinity, and the keys of -∞ and ∞
abbrev top_magnitude : ℕ
top_magnitude = 2047 * 2 ^ 52

abbrev pub least_key : ℕ
least_key = 2 ^ 52 - 1

abbrev pub greatest_key : ℕ
greatest_key = 2 ^ 63 + top_magnitude

-- ---- the bit pattern rises with the magnitude

-- of a magnitude in units of the smallest value: how many digits are dropped, and the digits kept
abbrev dropped : ℕ → ℕ
dropped n = size n - 53

abbrev magnitude : ℕ → ℕ
magnitude n = dropped n * 2 ^ 52 + n / 2 ^ dropped n

size_rises : (a b : ℕ) → a ≤ b → size a ≤ size b
size_rises a b h = size-le a (size b) (lt_of_le_of_lt h (size-lt b))

kept_most : (n : ℕ) → n / 2 ^ dropped n < 2 ^ 53
kept_most n = kept-lt 53 n

kept_least : (n : ℕ) → 0 < dropped n → 2 ^ 52 ≤ n / 2 ^ dropped n
kept_least n h =
    (le-div_iff_mul-le (pow_pos (dropped n))).1
    (le_trans (le_of_eq (sym (pow-add 2 52 (dropped n)))) (size_reaches n (52 + dropped n) (omega arith)))

magnitude_rises : (a b : ℕ) → a ≤ b → magnitude a ≤ magnitude b
magnitude_rises a b h = elim (eq-or-lt_of_le fewer) [ inl e ↦ same e | inr l ↦ more l ]
  where
    fewer : dropped a ≤ dropped b
    fewer = omega (arith, size_rises a b h)

    same : dropped a ≡ dropped b → magnitude a ≤ magnitude b
    same e =
        let p = 2 ^ dropped b in
        let d : a / p ≤ b / p = div_mono a p b p (pow_pos (dropped b)) (pow_pos (dropped b)) (mul-le-mul_right p h) in
        subst (λ (j : ℕ). j * 2 ^ 52 + a / 2 ^ j ≤ magnitude b) (sym e) (omega arith)

    more : dropped a < dropped b → magnitude a ≤ magnitude b
    more l =
        let x = a / 2 ^ dropped a in
        let y = b / 2 ^ dropped b in
        let p : x < 2 ^ 53 = kept_most a in
        let q : 2 ^ 52 ≤ y = kept_least b (omega arith) in
        let r : suc (dropped a) * 2 ^ 52 ≤ dropped b * 2 ^ 52 = mul-le-mul_right (2 ^ 52) l in
        omega arith

-- the magnitude of a float in units of the smallest value
abbrev in_units : Float → ℕ
in_units x = num x * 2 ^ 1074 / den x

in_units_rises : (x y : Float) → num x * den y ≤ num y * den x → in_units x ≤ in_units y
in_units_rises x y h =
    let u = 2 ^ 1074 in
    div_mono (num x * u) (den x) (num y * u) (den y) (den_pos x) (den_pos y)
    (le_trans (le_of_eq (mul_right_comm (num x) u (den y))) (le_trans (mul-le-mul_right u h) (le_of_eq (mul_right_comm (num y) (den x) u))))

bits_are : (x : Float) → Finite x → to_bits binary64 x ≡ cond (negative x) (2 ^ 63) 0 + magnitude (in_units x)
unfolding to_bits finite negative
bits_are nan p = absurd (false≢true p)
bits_are (inf s) p = absurd (false≢true p)
bits_are (fin s m e) p = add_assoc (cond s (2 ^ 63) 0) _ _

-- ---- the magnitude of a finite value of binary64 is below that of an infinity

fits_below : (s : Bool) (m : ℕ) (e : ℤ) → T (fits binary64 (fin s m e)) → m * up e < 2 ^ 1024 * down e
unfolding fits
fits_below s zero e h = rw (zero-mul (up e)) (mul-pos (pow_pos 1024) (down_pos e))
fits_below s (suc m) e h =
    ltb→lt (suc m * up e) (2 ^ 1024 * down e)
    (and_r (eqb (suc m % 2) 1 && ltb (suc m) (2 ^ 53) && leb (down e) (2 ^ 1074)) (ltb (suc m * up e) (2 ^ 1024 * down e)) h)

num_below : (x : Float) → Finite x → T (fits binary64 x) → num x < 2 ^ 1024 * den x
unfolding finite
num_below nan p h = absurd (false≢true p)
num_below (inf s) p h = absurd (false≢true p)
num_below (fin s m e) p h = fits_below s m e h

in_units_below : (x : Float) → Finite x → T (fits binary64 x) → in_units x < 2 ^ 2098
in_units_below x p h =
    let u = 2 ^ 1074 in
    (div-lt_iff_lt-mul (den_pos x)).1
    (lt_of_lt_of_le (mul-lt-mul_of_pos_right (num_below x p h) (pow_pos 1074))
    (le_of_eq (mul_right_comm (2 ^ 1024) (den x) u ∙ ap (λ (z : ℕ). z * den x) (sym (pow-add 2 1024 1074)))))

magnitude_below : (x : Float) → Finite x → T (fits binary64 x) → magnitude (in_units x) < top_magnitude
magnitude_below x p h =
    let n = in_units x in
    let k = n / 2 ^ dropped n in
    let s : size n ≤ 2098 = size-le n 2098 (in_units_below x p h) in
    let r : k < 2 ^ 53 = kept_most n in
    omega arith

-- ---- the key of a finite value, by its sign and its magnitude

sign_key : (s : Bool) (m : ℕ) → m < top_magnitude → key_of_bits (cond s (2 ^ 63) 0 + m) ≡ cond s (2 ^ 63 - 1 - m) (2 ^ 63 + m)
sign_key true m h = rw (le-ltb (2 ^ 63 + m) (2 ^ 63) (omega arith)) (omega arith)
sign_key false m h = rw (lt-ltb (0 + m) (2 ^ 63) (omega arith)) (omega arith)

module _ (x : Float) (p : Finite x) (h : T (fits binary64 x)) where
  key_is : key_of x ≡ cond (negative x) (2 ^ 63 - 1 - magnitude (in_units x)) (2 ^ 63 + magnitude (in_units x))
  unfolding key_of
  key_is = ap key_of_bits (bits_are x p) ∙ sign_key (negative x) (magnitude (in_units x)) (magnitude_below x p h)

  -- between those of the infinities
  key_within : (least_key < key_of x) × (key_of x < greatest_key)
  key_within = rw key_is (within (negative x) (magnitude (in_units x)) (magnitude_below x p h))
    where
      within : (s : Bool) (m : ℕ) → m < top_magnitude
          → (least_key < cond s (2 ^ 63 - 1 - m) (2 ^ 63 + m)) × (cond s (2 ^ 63 - 1 - m) (2 ^ 63 + m) < greatest_key)
      within true m r = (omega arith, omega arith)
      within false m r = (omega arith, omega arith)

-- ---- keys rise

sign_rises : (s t : Bool) (a b m n : ℕ) → below s a t b ≡ true → (a ≤ b → m ≤ n) → (b ≤ a → n ≤ m) → m < top_magnitude → n < top_magnitude
    → cond s (2 ^ 63 - 1 - m) (2 ^ 63 + m) ≤ cond t (2 ^ 63 - 1 - n) (2 ^ 63 + n)
sign_rises false false a b m n e up down p q = let l = up (le_of_lt (ltb-true a b e)) in omega arith
sign_rises false true a b m n e up down p q = absurd (false≢true e)
sign_rises true false a b m n e up down p q = omega arith
sign_rises true true a b m n e up down p q = let l = down (le_of_lt (ltb-true b a e)) in omega arith

bits_same : (a b : ℕ) → a < 2 ^ 64 → b < 2 ^ 64 → key_of_bits a ≡ key_of_bits b → a ≡ b
bits_same a b p q e = decided (ltb a (2 ^ 63)) refl (ltb b (2 ^ 63)) refl e
  where
    decided : (s : Bool) → ltb a (2 ^ 63) ≡ s → (t : Bool) → ltb b (2 ^ 63) ≡ t
        → cond s (2 ^ 63 + a) (2 ^ 64 - 1 - a) ≡ cond t (2 ^ 63 + b) (2 ^ 64 - 1 - b) → a ≡ b
    decided true f true g k = omega arith
    decided true f false g k = omega (arith, ltb-true a (2 ^ 63) f, ltb-false b (2 ^ 63) g)
    decided false f true g k = omega (arith, ltb-false a (2 ^ 63) f, ltb-true b (2 ^ 63) g)
    decided false f false g k = omega arith

module _ (x y : Float) (p : Finite x) (q : Finite y) (g : T (fits binary64 x)) (h : T (fits binary64 y)) where
  key_same : key_of x ≡ key_of y → x ≡ y
  unfolding key_of
  key_same e =
      let b = bits_same (to_bits binary64 x) (to_bits binary64 y) (to_bits-lt binary64 x g) (to_bits-lt binary64 y h) e in
      sym (of_bits-to_bits binary64 x g) ∙ ap (of_bits binary64) b ∙ of_bits-to_bits binary64 y h

  key_rises : lt x y ≡ true → key_of x ≤ key_of y
  key_rises e =
      rw (key_is x p g, key_is y q h)
      (sign_rises (negative x) (negative y) (num x * den y) (num y * den x) (magnitude (in_units x)) (magnitude (in_units y))
      (sym (lt_crossed x y p q) ∙ e)
      (λ l. magnitude_rises (in_units x) (in_units y) (in_units_rises x y l))
      (λ l. magnitude_rises (in_units y) (in_units x) (in_units_rises y x l))
      (magnitude_below x p g) (magnitude_below y q h))

  -- the lesser of two finite values has the lesser key
  lt_key : lt x y ≡ true → key_of x < key_of y
  lt_key e = elim (eq-or-lt_of_le (key_rises e)) [
    | inl k ↦ absurd (true≢false (sym e ∙ subst (λ (z : Float). lt x z ≡ false) (key_same k) (order_irreflexive lt_order x p)))
    | inr l ↦ l
  ]

-- ---- the float of a key

-- a key from that of -∞ to that of ∞ is that of its float
key_back : (m : ℕ) → least_key ≤ m → m ≤ greatest_key → key_of (of_key m) ≡ m
unfolding key_of of_key
key_back m l r = ap key_of_bits (to_bits-of_bits binary64 (bits_of_key m) small number) ∙ there (ltb m (2 ^ 63)) refl
  where
    within : (bits_of_key m < 2 ^ 64) × (bits_of_key m % 2 ^ 63 ≤ top_magnitude)
    within = decided (ltb m (2 ^ 63)) refl
      where
        decided : (t : Bool) → ltb m (2 ^ 63) ≡ t
            → (cond t (2 ^ 64 - 1 - m) (m - 2 ^ 63) < 2 ^ 64) × (cond t (2 ^ 64 - 1 - m) (m - 2 ^ 63) % 2 ^ 63 ≤ top_magnitude)
        decided true e = let h = ltb-true m (2 ^ 63) e in (omega arith, omega arith)
        decided false e = let h = ltb-false m (2 ^ 63) e in (omega arith, omega arith)

    small : bits_of_key m < 2 * top binary64
    small = within.0

    number : T (not (is_nan (of_bits binary64 (bits_of_key m))))
    number =
        let b = bits_of_key m in
        let e = sym (nan_bits_is binary64 b) ∙ nan_bits_above binary64 b ∙ le-ltb top_magnitude (b % 2 ^ 63) within.1 in
        subst (λ (t : Bool). T (not t)) (sym e) tt

    there : (t : Bool) → ltb m (2 ^ 63) ≡ t → key_of_bits (cond t (2 ^ 64 - 1 - m) (m - 2 ^ 63)) ≡ m
    there true e = let h = ltb-true m (2 ^ 63) e in rw (le-ltb (2 ^ 64 - 1 - m) (2 ^ 63) (omega arith)) (omega arith)
    there false e = let h = ltb-false m (2 ^ 63) e in rw (lt-ltb (m - 2 ^ 63) (2 ^ 63) (omega arith)) (omega arith)

of_key_fits : (m : ℕ) → T (fits binary64 (of_key m))
unfolding of_key
of_key_fits m = of_bits-fits binary64 (bits_of_key m)

-- between the keys of the infinities the floats are finite
key_finite : (m : ℕ) → least_key < m → m < greatest_key → Finite (of_key m)
unfolding key_of to_bits finite
key_finite m l r = told (of_key m) (key_back m (omega arith) (omega arith))
  where
    told : (x : Float) → key_of x ≡ m → finite x ≡ true
    told nan e = absurd (omega arith)
    told (inf true) e = absurd (omega arith)
    told (inf false) e = absurd (omega arith)
    told (fin s n d) e = refl

-- ---- a finite value among the floats of keys

-- not less than the float of a key and less than that of the next, it is equal to the first as a number
pub between_keys : (v : Float) (m : ℕ) → Finite v → T (fits binary64 v) → least_key ≤ m → m + 1 ≤ greatest_key
    → lt v (of_key m) ≡ false → lt v (of_key (m + 1)) ≡ true → eq v (of_key m) ≡ true
unfolding le
between_keys v m p h l r d e =
    (λ i. sym d i || eq v (of_key m)) ∙ le_not_less v (of_key m) p at_finite ∙ ap not (decided (lt (of_key m) v) refl)
  where
    at_most : key_of v ≤ m
    at_most = elim (eq-or-lt_of_le r) [
      | inl k ↦ omega (arith, (key_within v p h).1)
      | inr k ↦
          omega (
            arith,
            key_back (m + 1) (omega arith) r,
            lt_key v (of_key (m + 1)) p (key_finite (m + 1) (omega arith) k) h (of_key_fits (m + 1)) e,
          )
    ]

    at_finite : Finite (of_key m)
    at_finite = key_finite m (omega (arith, at_most, (key_within v p h).0)) (omega arith)

    decided : (b : Bool) → lt (of_key m) v ≡ b → lt (of_key m) v ≡ false
    decided true k = absurd (omega (arith, at_most, key_back m l (omega arith), lt_key (of_key m) v at_finite p (of_key_fits m) h k))
    decided false k = k

-- it is not less than -∞, and less than ∞
pub within_infinities : (v : Float) → Finite v → (lt v (of_key least_key) ≡ false) × (lt v (of_key greatest_key) ≡ true)
unfolding lt finite of_key of_bits
within_infinities nan p = absurd (false≢true p)
within_infinities (inf s) p = absurd (false≢true p)
within_infinities (fin s m e) p = (refl, refl)
