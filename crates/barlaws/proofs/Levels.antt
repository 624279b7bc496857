-- Ends that are level, each at most the other, give the same ratio: f64s that are level are equal or are -0 and +0, and no ratio tells an
-- end of -0 from one of +0. Assumes nothing.
use mathlib.Core.Path.{◌≡◌, refl, sym, ap, ◌∙◌}
use mathlib.Core.Bool.{Bool, true, false, cond, not, and-false, true≢false, false≢true}
use Prim.Native.Nat.{ℕ, zero, suc, ◌+◌, ◌*◌, ◌≤◌, ◌<◌}
use native.Mathlib.Nat.{add-zero, zero-add, add_comm, zero-mul, mul-pos, eq_of_mul-eq-mul_right}
use native.Mathlib.Omega.{arith}
use lib.Dec.{T}
use lib.IntN.{pos}
use lib.Ieee.{Float, nan, inf, fin, binary64, up, down, round, sub, div, lt, le, fits}
use lib.Ieee.Positive.{num, den, den_pos}
use lib.Ieee.Fits.{up_pos, down_pos}
use lib.Ieee.Back.{whole_unique}
use borrow.Author.Tests.{ltb-true, ltb-false, lt-ltb, le-ltb, not-true}
use Rattle.model.specs.Readings.{finite}
use Rattle.model.specs.Values.{negative, comes_before}
use Rattle.model.specs.Ratio.{zero_f, quotient, ratio}
use Rattle.laws.proofs.FloatOrder.{Finite, lt_crossed, le_not_less, comes_before_level}
use Rattle.laws.proofs.Differences.{round_nought}
use Rattle.laws.proofs.Shapes.{placed, ratio_by, nought_by_placed}

-- -0
abbrev minus_zero_f : Float
minus_zero_f = fin true 0 (pos 0)

-- a nought among the f64s is -0 or +0
nought_is : (x y : Float) → Finite x → T (fits binary64 x) → num x * den y ≡ 0 → x ≡ fin (negative x) 0 (pos 0)
unfolding finite fits negative
nought_is nan y p f z = absurd (false≢true p)
nought_is (inf s) y p f z = absurd (false≢true p)
nought_is (fin s m e) y p f z =
    let none : m * up e ≡ 0 = eq_of_mul-eq-mul_right (den y) (den_pos y) (m * up e) 0 (omega arith) in
    whole_unique binary64 (fin s m e) (fin s 0 (pos 0)) s 0 f tt (refl, omega arith) (refl, refl)

-- what does not tell -0 from +0 does not tell f64s neither of which is less
level_alike : {A : Type 0} (g : Float → A) → g minus_zero_f ≡ g zero_f → (x y : Float) → Finite x → Finite y
    → T (fits binary64 x) → T (fits binary64 y) → lt x y ≡ false → lt y x ≡ false → g x ≡ g y
unfolding comes_before
level_alike g same x y p q f h k l = by (negative x) (negative y) refl refl
  where
    equal : comes_before x y ≡ false → comes_before y x ≡ false → g x ≡ g y
    equal c d = ap g (comes_before_level binary64 x y f h p q c d)

    noughts : num x * den y + num y * den x ≤ 0 → g (fin (negative x) 0 (pos 0)) ≡ g (fin (negative y) 0 (pos 0)) → g x ≡ g y
    noughts z e = ap g (nought_is x y p f (omega arith)) ∙ e ∙ sym (ap g (nought_is y x q h (omega arith)))

    by : (s t : Bool) → negative x ≡ s → negative y ≡ t → g x ≡ g y
    by true true i j = equal (simp (k, i, j, and-false)) (simp (l, i, j, and-false))
    by false false i j = equal (simp (k, i, j, and-false)) (simp (l, i, j, and-false))
    by true false i j = noughts (ltb-false _ _ (rw (i, j) at (sym (lt_crossed x y p q) ∙ k))) (rw (i, j) same)
    by false true i j = noughts (rw add_comm (ltb-false _ _ (rw (i, j) at (sym (lt_crossed y x q p) ∙ l)))) (rw (i, j) (sym same))

-- ends in one order have one ratio if their quotients come to one ppm where they rise
ratio_alike : (v a b c d : Float) → Finite a → Finite b → Finite c → Finite d → lt a b ≡ lt c d
    → (lt c d ≡ true → placed (quotient v a b) ≡ placed (quotient v c d)) → ratio v a b ≡ ratio v c d
ratio_alike v a b c d p q r s e h =
    ratio_by v a b (not (lt c d)) (le_not_less b a q p ∙ ap not e) ∙ rising (lt c d) h ∙ sym (ratio_by v c d _ (le_not_less d c s r))
  where
    rising : {m n : ℕ} (t : Bool) → (t ≡ true → m ≡ n) → cond (not t) 1_000_000 m ≡ cond (not t) 1_000_000 n
    rising true h = h refl
    rising false h = refl

-- ---- -0 and +0 as the lower end

nought_lt : (b : Float) → lt minus_zero_f b ≡ lt zero_f b
unfolding lt
nought_lt nan = refl
nought_lt (inf t) = refl
nought_lt (fin true m e) = le-ltb (m * up e * 1) (0 * down e) (omega arith)
nought_lt (fin false m e) = rw (zero-mul (down e), zero-add (m * up e * 1))

-- v - -0 and v - +0 are equal, but for a v of -0: there they are +0 and -0
sub_nought : {A : Type 0} (g : Float → A) (v : Float) → (lt zero_f v ≡ false → g minus_zero_f ≡ g zero_f)
    → g (sub binary64 v minus_zero_f) ≡ g (sub binary64 v zero_f)
unfolding lt sub
sub_nought g nan same = refl
sub_nought g (inf s) same = refl
sub_nought g (fin false m e) same =
    rw (le-ltb (m * up e * 1) (0 * down e) (omega arith)) (ap (λ n. g (round binary64 false n (down e * 1))) (omega arith))
sub_nought g (fin true zero e) same =
    let above : 0 < down e * 1 = mul-pos (down_pos e) (omega arith) in
    rw (zero-mul (up e), zero-mul (down e))
    (ap g (round_nought false 0 (down e * 1) above refl) ∙ sym (same refl) ∙ sym (ap g (round_nought true 0 (down e * 1) above refl)))
sub_nought g (fin true (suc m) e) same =
    let above : 0 < suc m * up e = mul-pos {m = suc m} (omega arith) (up_pos e) in
    rw (le-ltb (suc m * up e * 1) (0 * down e) (omega arith), lt-ltb (0 * down e) (suc m * up e * 1) (omega arith))
    (ap (λ n. g (round binary64 true n (down e * 1))) (omega arith))

lower_nought : (v b : Float) → Finite b → ratio v minus_zero_f b ≡ ratio v zero_f b
unfolding finite quotient
lower_nought v b p = ratio_alike v minus_zero_f b zero_f b refl p refl p (nought_lt b) λ l.
    sub_nought (λ d. placed (div binary64 (sub binary64 v minus_zero_f) d)) b (λ e. absurd (true≢false (sym l ∙ e)))
    ∙ sub_nought (λ x. placed (div binary64 x (sub binary64 b zero_f))) v (λ e. nought_by_placed true _ ∙ sym (nought_by_placed false _))

-- ---- -0 and +0 as the upper end

lt_nought : (a : Float) → lt a minus_zero_f ≡ lt a zero_f
unfolding lt
lt_nought nan = refl
lt_nought (inf s) = refl
lt_nought (fin true m e) = rw (zero-mul (down e), add-zero (m * up e * 1))
lt_nought (fin false m e) = sym (le-ltb (m * up e * 1) (0 * down e) (omega arith))

-- -0 - a and +0 - a are equal for an a below 0
nought_sub : (a : Float) → lt a zero_f ≡ true → sub binary64 minus_zero_f a ≡ sub binary64 zero_f a
unfolding lt sub
nought_sub nan l = refl
nought_sub (inf s) l = refl
nought_sub (fin false m e) l = absurd (omega (arith, ltb-true (m * up e * 1) (0 * down e) l))
nought_sub (fin true m e) l =
    let above : 0 < m * up e * 1 + 0 * down e = ltb-true 0 _ l in
    rw (lt-ltb (0 * down e) (m * up e * 1) (omega arith)) (ap (λ n. round binary64 false n (1 * down e)) (omega arith))

upper_nought : (v a : Float) → Finite a → ratio v a minus_zero_f ≡ ratio v a zero_f
unfolding finite quotient
upper_nought v a p = ratio_alike v a minus_zero_f a zero_f p refl p refl (lt_nought a) λ l.
    ap (λ d. placed (div binary64 (sub binary64 v a) d)) (nought_sub a l)

not_less : (x y : Float) → Finite x → Finite y → le x y ≡ true → lt y x ≡ false
not_less x y p q h = not-true (lt y x) (sym (le_not_less x y p q) ∙ h)

-- ends that are level, each at most the other, give the same ratio: two f64s that are level are the same, or -0 and +0
pub ratio_level : (x a a' b b' : Float) → Finite a → Finite a' → Finite b → Finite b'
    → T (fits binary64 a) → T (fits binary64 a') → T (fits binary64 b) → T (fits binary64 b')
    → le a a' ≡ true → le a' a ≡ true → le b b' ≡ true → le b' b ≡ true → ratio x a b ≡ ratio x a' b'
ratio_level x a a' b b' p p' q q' f f' g g' h h' k k' =
    level_alike (λ z. ratio x z b) (lower_nought x b q) a a' p p' f f' (not_less a' a p' p h') (not_less a a' p p' h)
    ∙ level_alike (λ z. ratio x a' z) (upper_nought x a' p') b b' q q' g g' (not_less b' b q' q k') (not_less b b' q q' k)
