-- Differences of f64s, each rounded once: x - x is +0, and y - x is above 0 if x is below y, since both are whole numbers of the smallest
-- f64, so that no difference rounds to 0. A number above 0 divided by itself is 1. Assumes nothing.
use mathlib.Core.Path.{◌≡◌, refl, sym, ap, ◌∙◌}
use mathlib.Core.Bool.{Bool, true, false, not, ◌&&◌, false≢true}
use Prim.Native.Nat.{ℕ, zero, suc, ◌+◌, ◌-◌, ◌*◌, ◌%◌, ◌^◌, ◌≤◌, ◌<◌}
use native.Mathlib.Nat.{le_refl, not-le_of_lt, zero-add, sub_self, suc-mul, add-mul, zero-mul, one-mul, mul-one, mul_comm, mul_assoc}
use native.Mathlib.Nat.{mul_right_comm, mul-pos, mul-le-mul_right, lt_of_mul-lt-mul_right}
use native.Mathlib.Omega.{arith}
use lib.Dec.{T, ltb, eqb, leb→le, eqb-suc-zero}
use lib.IntN.{ℤ, pos, negsuc}
use lib.Pow.{pow-add, pow_pos, pow-lt}
use lib.Ieee.{Float, Format, nan, inf, fin, binary64, prec, low, up, down, round, sum, add, neg, sub, div, below, lt, le, fits}
use lib.Ieee.Bits.{is_true}
use lib.Ieee.Fits.{up_pos, down_pos}
use lib.Ieee.Order.{round_mono}
use lib.Ieee.Scale.{round_same}
use borrow.Author.Tests.{ltb-true, le-ltb, not-true}
use Rattle.model.specs.Readings.{finite}
use Rattle.model.specs.Ratio.{zero_f, one_f}
use Rattle.laws.proofs.FloatOrder.{Finite, lt_order, le_not_less}

-- a difference that is finite is one of finite numbers
pub finite_ends : (a b : Float) → Finite (sub binary64 b a) → Finite a × Finite b
unfolding sub add neg finite
finite_ends nan nan h = absurd (false≢true h)
finite_ends nan (inf s) h = absurd (false≢true h)
finite_ends nan (fin s m e) h = absurd (false≢true h)
finite_ends (inf t) nan h = absurd (false≢true h)
finite_ends (inf true) (inf true) h = absurd (false≢true h)
finite_ends (inf true) (inf false) h = absurd (false≢true h)
finite_ends (inf false) (inf true) h = absurd (false≢true h)
finite_ends (inf false) (inf false) h = absurd (false≢true h)
finite_ends (inf t) (fin s m e) h = absurd (false≢true h)
finite_ends (fin t n d) nan h = absurd (false≢true h)
finite_ends (fin t n d) (inf s) h = absurd (false≢true h)
finite_ends (fin t n d) (fin s m e) h = (refl, refl)

-- ---- of a number and itself

pub round_nought : (s : Bool) (a c : ℕ) → 0 < c → a ≡ 0 → round binary64 s a c ≡ fin s 0 (pos 0)
unfolding round
round_nought s a c h e = round_same binary64 s a c 0 1 h (omega arith) (omega arith)

-- x - x is +0
pub sub_itself : (x : Float) → Finite x → sub binary64 x x ≡ zero_f
unfolding sub add neg sum finite
sub_itself nan p = absurd (false≢true p)
sub_itself (inf s) p = absurd (false≢true p)
sub_itself (fin true m e) p =
    rw (le-ltb _ _ (le_refl (m * up e * down e))) (round_nought false _ _ (mul-pos (down_pos e) (down_pos e)) (sub_self _))
sub_itself (fin false m e) p =
    rw (le-ltb _ _ (le_refl (m * up e * down e))) (round_nought false _ _ (mul-pos (down_pos e) (down_pos e)) (sub_self _))

-- x / x is 1 for an x above 0
pub div_itself : (x : Float) → Finite x → lt zero_f x ≡ true → div binary64 x x ≡ one_f
unfolding finite lt div round
div_itself nan p h = absurd (false≢true p)
div_itself (inf s) p h = absurd (false≢true p)
div_itself (fin true m e) p h = absurd (false≢true h)
div_itself (fin false zero e) p h = absurd (omega (arith, ltb-true (0 * 1 * down e) (0 * up e * 1) h))
div_itself (fin false (suc m) e) p h =
    let above : 0 < suc m * up e * down e = mul-pos (mul-pos {m = suc m} (omega arith) (up_pos e)) (down_pos e) in
    rw (eqb-suc-zero m) (round_same binary64 false _ _ 1 1 above (omega arith) (mul_comm _ 1))

-- ---- whole numbers of the smallest

-- the smallest f64 above 0, and how many of it are 1
abbrev smallest : Float
smallest = fin false 1 (negsuc 1073)

abbrev in_one : ℕ
in_one = 2 ^ low binary64

third : (a b c d : Bool) → T (a && b && c && d) → T c
third true true true d h = tt
third true true false d h = absurd h
third true false c d h = absurd h
third false b c d h = absurd h

in_smallest : (f : Format) (s : Bool) (m : ℕ) (e : ℤ) → T (fits f (fin s m e)) → (k : ℕ) × (m * up e * 2 ^ low f ≡ k * down e)
unfolding fits
in_smallest f s m (pos e) h = (m * up (pos e) * 2 ^ low f, omega arith)
in_smallest f s zero (negsuc e) h = (0, omega arith)
in_smallest f s (suc m) (negsuc e) h =
    let l : 2 ^ suc e ≤ 2 ^ low f = leb→le _ _ (third (eqb (suc m % 2) 1) (ltb (suc m) (2 ^ prec f)) _ _ h) in
    let r : ¬ (low f < suc e) = λ j. not-le_of_lt (pow-lt j) l in
    let k : 2 ^ (low f - suc e) * 2 ^ suc e ≡ 2 ^ low f = sym (pow-add 2 (low f - suc e) (suc e)) ∙ ap (λ n. 2 ^ n) (omega arith) in
    (suc m * 2 ^ (low f - suc e), rw (mul_assoc (suc m) (2 ^ (low f - suc e)) (2 ^ suc e), k, mul-one))

-- over a common denominator
over : (x u k y z : ℕ) → x * u ≡ k * y → x * z * u ≡ k * (y * z)
over x u k y z e = mul_right_comm x z u ∙ ap (λ n. n * z) e ∙ mul_assoc k y z

-- what two whole numbers of 1 / u, x / c and (x + z) / c, differ by is at least one
gap : (x z u c j k : ℕ) → 0 < u → x * u ≡ j * c → (x + z) * u ≡ k * c → 0 < z → c ≤ z * u
gap x z u c j k above first second h =
    let q : 0 < z * u = mul-pos h above in
    let s : (x + z) * u ≡ x * u + z * u = add-mul x z u in
    let r : j < k = lt_of_mul-lt-mul_right c (omega arith) in
    let t : suc j * c ≤ k * c = mul-le-mul_right c r in
    omega (arith, suc-mul j c)

-- ---- a difference of rising numbers

round_apart : (x z c j k : ℕ) → 0 < c → x * in_one ≡ j * c → (x + z) * in_one ≡ k * c → 0 < z → T (le smallest (round binary64 false z c))
unfolding round
round_apart x z c j k above first second h =
    round_mono binary64 1 in_one z c (pow_pos (low binary64)) above
    (rw (one-mul c) (gap x z in_one c j k (pow_pos (low binary64)) first second h))

less_apart : (x y c j k : ℕ) → 0 < c → x * in_one ≡ j * c → y * in_one ≡ k * c → x < y → T (le smallest (round binary64 false (y - x) c))
less_apart x y c j k above first second less =
    let same : x + (y - x) ≡ y = omega arith in
    round_apart x (y - x) c j k above first ((rw same) ∙ second) (omega arith)

-- ±y / c less a lesser ±x / c
signed_apart : (t s : Bool) (x y c j k : ℕ) → 0 < c → x * in_one ≡ j * c → y * in_one ≡ k * c → below t x s y ≡ true
    → T (le smallest (sum binary64 s y (not t) x c))
unfolding sum
signed_apart false false x y c j k above first second h =
    let less : x < y = ltb-true x y h in
    rw (le-ltb y x (omega arith)) (less_apart x y c j k above first second less)
signed_apart false true x y c j k above first second h = absurd (false≢true h)
signed_apart true false x y c j k above first second h =
    round_apart 0 (y + x) c 0 (k + j) above (sym (zero-mul c)) (rw (zero-add, add-mul y x, second, first, add-mul k j))
    (omega (arith, ltb-true 0 (x + y) h))
signed_apart true true x y c j k above first second h = rw h (less_apart y x c k j above second first (ltb-true y x h))

apart : (a b : Float) → T (fits binary64 a) → T (fits binary64 b) → Finite a → Finite b → lt a b ≡ true
    → T (le smallest (sub binary64 b a))
unfolding finite lt sub add neg
apart nan b f g p q h = absurd (false≢true p)
apart (inf t) b f g p q h = absurd (false≢true p)
apart (fin t n d) nan f g p q h = absurd (false≢true q)
apart (fin t n d) (inf s) f g p q h = absurd (false≢true q)
apart (fin t n d) (fin s m e) f g p q h =
    let (j, first) = in_smallest binary64 t n d f in
    let (k, second) = in_smallest binary64 s m e g in
    signed_apart t s (n * up d * down e) (m * up e * down d) (down e * down d) j k (mul-pos (down_pos e) (down_pos d))
    (over (n * up d) in_one j (down d) (down e) first ∙ ap (λ c. j * c) (mul_comm (down d) (down e)))
    (over (m * up e) in_one k (down e) (down d) second) h

above_nought : (x : Float) → Finite x → T (le smallest x) → lt zero_f x ≡ true
unfolding lt finite
above_nought x p h = decided (lt zero_f x) refl
  where
    decided : (t : Bool) → lt zero_f x ≡ t → t ≡ true
    decided true e = refl
    decided false e =
        let l : lt x smallest ≡ false = not-true (lt x smallest) (sym (le_not_less smallest x refl p) ∙ is_true (le smallest x) h) in
        sym (lt_order.following smallest x zero_f refl p refl l e)

-- the difference of two f64s in rising order is above 0
pub difference_above : (a b : Float) → T (fits binary64 a) → T (fits binary64 b) → lt a b ≡ true → Finite (sub binary64 b a)
    → lt zero_f (sub binary64 b a) ≡ true
difference_above a b f g h spanned =
    let (p, q) = finite_ends a b spanned in
    above_nought (sub binary64 b a) spanned (apart a b f g p q h)
