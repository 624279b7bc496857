-- What the shape of a ratio says of its ppm: between flat ends every value is at 1,000,000, between ends too wide apart at 0, and ends are
-- plain exactly if the ratio is a place between them, with the lower end at 0 and the upper one at 1,000,000. Assumes nothing.
use mathlib.Core.Path.{◌≡◌, refl, sym, ap, ◌∙◌}
use mathlib.Core.Logic.{◌↔◌}
use mathlib.Core.Bool.{Bool, true, false, cond, not, true≢false}
use Prim.Native.Nat.{ℕ, zero, suc, ◌*◌, ◌<◌}
use native.Mathlib.Nat.{mul-pos}
use native.Mathlib.Omega.{arith}
use lib.Dec.{T, eqb-suc-zero}
use lib.IntN.{pos}
use lib.Ieee.{Float, nan, inf, fin, binary64, up, down, round, sub, mul, div, lt, le, fits}
use lib.Ieee.Fits.{up_pos}
use borrow.Author.Tests.{not-false}
use Rattle.model.proofs.RatioParts.{ratio_is, shape_is}
use Rattle.model.specs.declared.Shape.{Shape}
use Rattle.model.specs.Readings.{finite}
use Rattle.model.specs.Ratio.{one_f, million_f, held_to_unit, rounded, quotient, normalized, ratio}
use Rattle.laws.proofs.FloatOrder.{le_not_less}
use Rattle.laws.proofs.Differences.{finite_ends, round_nought, sub_itself, div_itself, difference_above}

-- ---- the shape by its two tests

abbrev shape_by : Bool → Bool → Shape
shape_by flat spanned = cond flat Shape.Flat (cond spanned Shape.Plain Shape.TooWide)

flat_by : (flat spanned : Bool) → shape_by flat spanned ≡ Shape.Flat → flat ≡ true
flat_by true spanned e = refl
flat_by false true e = cc
flat_by false false e = cc

too_wide_by : (flat spanned : Bool) → shape_by flat spanned ≡ Shape.TooWide → (flat ≡ false) × (spanned ≡ false)
too_wide_by true spanned e = (cc, cc)
too_wide_by false true e = (refl, cc)
too_wide_by false false e = (refl, refl)

plain_by : (flat spanned : Bool) → shape_by flat spanned ≡ Shape.Plain → (flat ≡ false) × (spanned ≡ true)
plain_by true spanned e = (cc, cc)
plain_by false true e = (refl, refl)
plain_by false false e = (refl, cc)

-- ---- flat

-- flat is that the upper end is at most the lower one
pub flat_exactly : (v a b : Float) → ((normalized v a b).shape ≡ Shape.Flat) ↔ (le b a ≡ true)
flat_exactly v a b = (
  λ h. flat_by (le b a) (finite (sub binary64 b a)) (sym (shape_is v a b) ∙ h),
  λ h. shape_is v a b ∙ ap (λ t. shape_by t (finite (sub binary64 b a))) h,
)

-- the ppm of a quotient, between ends that are not flat
abbrev pub placed : Float → ℕ
placed x = rounded (mul binary64 (held_to_unit x) million_f)

pub ratio_by : (v a b : Float) (flat : Bool) → le b a ≡ flat → ratio v a b ≡ cond flat 1_000_000 (placed (quotient v a b))
ratio_by v a b flat h = ratio_is v a b ∙ ap (λ t. cond t 1_000_000 (placed (quotient v a b))) h

-- every value is at 1,000,000 between flat ends
pub flat_full : (v a b : Float) → (normalized v a b).shape ≡ Shape.Flat → ratio v a b ≡ 1_000_000
flat_full v a b h = ratio_by v a b true ((flat_exactly v a b).0 h)

-- ---- too wide

nan_placed : placed nan ≡ 0
unfolding held_to_unit lt mul rounded
nan_placed = refl

nought_placed : (s : Bool) → placed (fin s 0 (pos 0)) ≡ 0
unfolding held_to_unit lt mul round rounded
nought_placed true = refl
nought_placed false = refl

-- a quotient by what is not finite is 0 or not-a-number
not_finite_placed : (x y : Float) → finite y ≡ false → placed (div binary64 x y) ≡ 0
unfolding div finite
not_finite_placed nan y h = nan_placed
not_finite_placed (inf s) nan h = nan_placed
not_finite_placed (inf s) (inf t) h = nan_placed
not_finite_placed (inf s) (fin t n d) h = absurd (true≢false h)
not_finite_placed (fin s m e) nan h = nan_placed
not_finite_placed (fin s m e) (inf t) h = nought_placed _
not_finite_placed (fin s m e) (fin t n d) h = absurd (true≢false h)

-- every value is at 0 between ends that are too wide apart
pub too_wide_empty : (v a b : Float) → (normalized v a b).shape ≡ Shape.TooWide → ratio v a b ≡ 0
unfolding quotient
too_wide_empty v a b h =
    let (flat, spanned) = too_wide_by (le b a) (finite (sub binary64 b a)) (sym (shape_is v a b) ∙ h) in
    ratio_by v a b false flat ∙ not_finite_placed (sub binary64 v a) (sub binary64 b a) spanned

-- ---- plain

-- plain is that the ends rise, with a finite difference
pub plain_rises : (v a b : Float) → ((normalized v a b).shape ≡ Shape.Plain) ↔ ((lt a b ≡ true) × (finite (sub binary64 b a) ≡ true))
plain_rises v a b = (λ h. forth (plain_by _ _ (sym (shape_is v a b) ∙ h)), λ h. shape_is v a b ∙ back h)
  where
    forth : (le b a ≡ false) × (finite (sub binary64 b a) ≡ true) → (lt a b ≡ true) × (finite (sub binary64 b a) ≡ true)
    forth (flat, spanned) =
        let (p, q) = finite_ends a b spanned in
        (not-false (lt a b) (sym (le_not_less b a q p) ∙ flat), spanned)

    back : (lt a b ≡ true) × (finite (sub binary64 b a) ≡ true) → shape_by (le b a) (finite (sub binary64 b a)) ≡ Shape.Plain
    back (less, spanned) =
        let (p, q) = finite_ends a b spanned in
        let flat : le b a ≡ false = le_not_less b a q p ∙ ap not less in
        λ i. shape_by (flat i) (spanned i)

-- ±0 / d is ±0, and not-a-number for a d of 0
pub nought_by_placed : (s : Bool) (d : Float) → placed (div binary64 (fin s 0 (pos 0)) d) ≡ 0
unfolding div
nought_by_placed s nan = nan_placed
nought_by_placed s (inf t) = nought_placed _
nought_by_placed s (fin t zero d) = nan_placed
nought_by_placed s (fin t (suc n) d) =
    let above : 0 < suc n * up d = mul-pos {m = suc n} (omega arith) (up_pos d) in
    rw (eqb-suc-zero n) (ap placed (round_nought _ (0 * down d) (suc n * up d * 1) (omega arith) (omega arith)) ∙ nought_placed _)

one_placed : placed one_f ≡ 1_000_000
unfolding held_to_unit lt mul round rounded
one_placed = refl

-- Between plain ends the lower one is at 0 and the upper one at 1,000,000. The ends are f64s: a float nearer to 0 than the smallest f64 is
-- above 0, though its difference from 0 rounds to 0.
pub plain_ends : (v a b : Float) → T (fits binary64 a) → T (fits binary64 b) → (normalized v a b).shape ≡ Shape.Plain
    → (ratio a a b ≡ 0) × (ratio b a b ≡ 1_000_000)
unfolding quotient
plain_ends v a b f g h =
    let (less, spanned) = (plain_rises v a b).0 h in
    let (p, q) = finite_ends a b spanned in
    let d = sub binary64 b a in
    let flat : le b a ≡ false = le_not_less b a q p ∙ ap not less in (
      ratio_by a a b false flat ∙ ap (λ x. placed (div binary64 x d)) (sub_itself a p) ∙ nought_by_placed false d,
      ratio_by b a b false flat ∙ ap placed (div_itself d spanned (difference_above a b f g less spanned)) ∙ one_placed,
    )

-- ends are plain exactly if the ratio is a place between them
pub plain_exactly : (v a b : Float) → T (fits binary64 a) → T (fits binary64 b)
    → ((normalized v a b).shape ≡ Shape.Plain) ↔ ((ratio a a b ≡ 0) × (ratio b a b ≡ 1_000_000))
plain_exactly v a b f g = (plain_ends v a b f g, back (normalized v a b).shape refl)
  where
    back : (x : Shape) → (normalized v a b).shape ≡ x → (ratio a a b ≡ 0) × (ratio b a b ≡ 1_000_000) → x ≡ Shape.Plain
    back Shape.Plain e h = refl
    back Shape.Flat e h = absurd (omega (arith, flat_full a a b (shape_is a a b ∙ sym (shape_is v a b) ∙ e)))
    back Shape.TooWide e h = absurd (omega (arith, too_wide_empty b a b (shape_is b a b ∙ sym (shape_is v a b) ∙ e)))
