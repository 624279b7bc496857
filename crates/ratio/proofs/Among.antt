-- A place among three colours: the two products of `channel_among` come to that of the half where the place lies, and so do the three
-- channels; and one place in the span of a half serves both halves. Assumes nothing.
use mathlib.Core.Path.{◌≡◌, refl, sym, ap, ◌∙◌, subst}
use mathlib.Core.Bool.{Bool, true, false, cond}
use Prim.Native.Nat.{ℕ, ◌+◌, ◌-◌, ◌*◌, ◌/◌, ◌≤◌, ◌<◌, min}
use native.Mathlib.Omega.{arith}
use lib.Dec.{leb}
use lib.Ieee.{Float}
use borrow.Author.Tests.{leb-true, leb-false}
use Rattle.model.specs.Ratio.{channel, interpolate_rgb}
use Rattle.model.specs.declared.Rgb.{Rgb}
use Rattle.ratio.specs.Spanned.{spanned}
use Rattle.ratio.proofs.Between.{lifted, within}

abbrev pub summed : ℕ → ℕ → ℕ → ℕ → ℕ → ℕ
summed first middle last place lower =
    1_000_000 * first + 500_000 + (middle + 256 - first) * lower + (last + 256 - middle) * (place - lower)

pub record Among (first middle last place lower : ℕ) : Type 0 where
  pub enough : 256 * place ≤ summed first middle last place lower
  pub small : summed first middle last place lower - 256 * place < 256_000_000
  pub is : (summed first middle last place lower - 256 * place) / 1_000_000
      ≡ cond (leb place 1_000_000) (channel first middle place) (channel middle last (place - 1_000_000))

-- above the middle the first product is whole
module _ (first middle place a x : ℕ) (f : first ≤ 255) (b : 1_000_000 < place) (whole : a ≡ (middle + 256 - first) * 1_000_000)
    (h : 256 * (place - 1_000_000) ≤ middle * 1_000_000 + 500_000 + x) where
  reach : 256 * place ≤ 1_000_000 * first + 500_000 + a + x
  reach = omega arith

  level : 1_000_000 * first + 500_000 + a + x - 256 * place ≡ middle * 1_000_000 + 500_000 + x - 256 * (place - 1_000_000)
  level = omega arith

module _ (first middle last place lower : ℕ) (f : first ≤ 255) (m : middle ≤ 255) (l : last ≤ 255) (h : place ≤ 2_000_000)
    (e : lower ≡ min place 1_000_000) where
  below : leb place 1_000_000 ≡ true → Among first middle last place lower
  below p =
      let b : place ≤ 1_000_000 = leb-true _ _ p in
      let w = within first middle place f m b in
      let one : (middle + 256 - first) * lower ≡ (middle + 256 - first) * place =
      ap (λ (z : ℕ). (middle + 256 - first) * z) (omega arith) in
      let none : (last + 256 - middle) * (place - lower) ≡ (last + 256 - middle) * 0 =
      ap (λ (z : ℕ). (last + 256 - middle) * z) (omega arith) in
      let n : summed first middle last place lower ≡ lifted first middle place = omega arith in
      record {
        enough = omega (arith, w.enough);
        small = omega (arith, w.small);
        is = rw (p, n) w.is;
      }

  above : leb place 1_000_000 ≡ false → Among first middle last place lower
  above p =
      let b : 1_000_000 < place = leb-false _ _ p in
      let w = within middle last (place - 1_000_000) m l (omega arith) in
      let one : (middle + 256 - first) * lower ≡ (middle + 256 - first) * 1_000_000 =
      ap (λ (z : ℕ). (middle + 256 - first) * z) (omega arith) in
      let more : (last + 256 - middle) * (place - lower) ≡ (last + 256 - middle) * (place - 1_000_000) =
      ap (λ (z : ℕ). (last + 256 - middle) * z) (omega arith) in
      let n : summed first middle last place lower - 256 * place ≡ lifted middle last (place - 1_000_000) - 256 * (place - 1_000_000) =
      ap (λ (z : ℕ). 1_000_000 * first + 500_000 + (middle + 256 - first) * lower + z - 256 * place) more
      ∙ level first middle place _ _ f b one w.enough in
      record {
        enough =
            subst (λ (z : ℕ). 256 * place ≤ 1_000_000 * first + 500_000 + (middle + 256 - first) * lower + z) (sym more)
            (reach first middle place _ _ f b one w.enough);
        small = subst (λ (z : ℕ). z < 256_000_000) (sym n) w.small;
        is = rw (p, n) w.is;
      }

  pub among : Among first middle last place lower
  among = by (leb place 1_000_000) refl
    where
      by : (t : Bool) → leb place 1_000_000 ≡ t → Among first middle last place lower
      by true p = below p
      by false p = above p

-- ---- three colours

-- channel by channel
pub by_channel : (t : Bool) (first middle last : Rgb) (p q : ℕ) {r g b : ℕ}
    → r ≡ cond t (channel first.red middle.red p) (channel middle.red last.red q)
    → g ≡ cond t (channel first.green middle.green p) (channel middle.green last.green q)
    → b ≡ cond t (channel first.blue middle.blue p) (channel middle.blue last.blue q)
    → record { red = r; green = g; blue = b } ≡ cond t (interpolate_rgb first middle p) (interpolate_rgb middle last q)
unfolding interpolate_rgb
by_channel true first middle last p q x y z = simp (x, y, z)
by_channel false first middle last p q x y z = simp (x, y, z)

-- ---- the place of a value

pub one_place : (t : Bool) (x least midpoint lower upper : Float)
    → spanned x (cond t least midpoint) (cond t lower upper) + cond t 0 1_000_000
    ≡ cond t (spanned x least lower) (1_000_000 + spanned x midpoint upper)
one_place true x least midpoint lower upper = omega arith
one_place false x least midpoint lower upper = omega arith
