-- The colour channel at a ratio of at most 1,000,000, in natural numbers: it lies between its two ends, and begins and ends at them.
-- Assumes nothing.
use mathlib.Core.Path.{◌≡◌, refl, sym, ap, ◌∙◌}
use mathlib.Core.Bool.{Bool, true, false, cond}
use Prim.Native.Nat.{ℕ, zero, suc, ◌+◌, ◌-◌, ◌*◌, ◌/◌, ◌≤◌, ◌<◌, min}
use native.Mathlib.Nat.{le_refl, mul-le-mul, add-mul}
use native.Mathlib.Omega.{arith}
use lib.Dec.{T, ltb, ltb→lt, lt→ltb, lit≤}
use lib.IntN.{ℤ, pos, negsuc, neg_ℤ, ◌+ℤ◌, ◌-ℤ◌, ◌*ℤ◌}
use lib.Signed.{quot_z}
use lib.Ieee.Bits.{is_true}
use borrow.Author.Tests.{ltb-true, ltb-false}
use Rattle.model.specs.Ratio.{held_to_byte, channel, interpolate_rgb}
use Rattle.model.specs.declared.Rgb.{Rgb}

pub product : (d ppm : ℕ) → ppm ≤ 1_000_000 → d * ppm ≤ d * 1_000_000
product d ppm h = mul-le-mul (le_refl d) h

difference : (a b : ℕ) → b ≤ a → pos a -ℤ pos b ≡ pos (a - b)
difference a zero h = ap pos (omega arith)
difference a (suc b) h = by (ltb a (suc b)) (ltb→lt a (suc b))
  where
    by : (t : Bool) → (T t → a < suc b) → cond t (negsuc (suc b - suc a)) (pos (a - suc b)) ≡ pos (a - suc b)
    by true f = absurd (let l = f tt in omega arith)
    by false f = refl

negative : (a b : ℕ) → a < b → pos a -ℤ pos b ≡ negsuc (b - suc a)
negative a zero h = absurd (omega arith)
negative a (suc b) h = ap (λ (t : Bool). cond t (negsuc (suc b - suc a)) (pos (a - suc b))) (is_true (ltb a (suc b)) (lt→ltb a (suc b) h))

-- what is divided by 1,000,000
abbrev numerator : ℕ → ℕ → ℕ → ℤ
numerator start end ppm = pos start *ℤ pos 1_000_000 +ℤ (pos end -ℤ pos start) *ℤ pos ppm +ℤ pos 500_000

rising : (start end ppm : ℕ) → start ≤ end → numerator start end ppm ≡ pos (start * 1_000_000 + (end - start) * ppm + 500_000)
rising start end ppm h = ap (λ (z : ℤ). pos start *ℤ pos 1_000_000 +ℤ z *ℤ pos ppm +ℤ pos 500_000) (difference end start h)

falling : (start end ppm : ℕ) → end < start → ppm ≤ 1_000_000
    → numerator start end ppm ≡ pos (start * 1_000_000 - (start - end) * ppm + 500_000)
falling start end ppm h l =
    let p = product (start - end) ppm l in
    let d : suc (start - suc end) ≡ start - end = omega arith in
    ap (λ (z : ℤ). pos start *ℤ pos 1_000_000 +ℤ z *ℤ pos ppm +ℤ pos 500_000) (negative end start h)
    ∙ ap (λ (z : ℕ). pos (start * 1_000_000) +ℤ neg_ℤ (pos (z * ppm)) +ℤ pos 500_000) d
    ∙ ap (λ (z : ℤ). z +ℤ pos 500_000) (difference (start * 1_000_000) ((start - end) * ppm) (omega arith))

-- the channel, once its numerator is a natural number
settles : (n : ℕ) (z : ℤ) → z ≡ pos n → min (n / 1_000_000) 255 ≡ held_to_byte (quot_z z (pos 1_000_000))
unfolding held_to_byte
settles n z p = rw p

-- what `channel_within` takes 256 * ppm off, which is the numerator and that much more
abbrev pub lifted : ℕ → ℕ → ℕ → ℕ
lifted start end ppm = start * 1_000_000 + 500_000 + (end + 256 - start) * ppm

pub record Within (start end ppm : ℕ) : Type 0 where
  pub enough : 256 * ppm ≤ lifted start end ppm
  pub small : lifted start end ppm - 256 * ppm < 256_000_000
  pub is : (lifted start end ppm - 256 * ppm) / 1_000_000 ≡ channel start end ppm

rises : (start end ppm : ℕ) → start ≤ end → end ≤ 255 → ppm ≤ 1_000_000 → Within start end ppm
unfolding channel
rises start end ppm h k l =
    let p = product (end - start) ppm l in
    let s : end + 256 - start ≡ end - start + 256 = omega arith in
    let q : (end + 256 - start) * ppm ≡ (end - start) * ppm + 256 * ppm = ap (λ (z : ℕ). z * ppm) s ∙ add-mul (end - start) 256 ppm in
    let n : lifted start end ppm - 256 * ppm ≡ start * 1_000_000 + (end - start) * ppm + 500_000 = omega arith in
    record {
      enough = omega arith;
      small = omega arith;
      is = omega arith ∙ settles (lifted start end ppm - 256 * ppm) (numerator start end ppm) (rising start end ppm h ∙ ap pos (sym n));
    }

falls : (start end ppm : ℕ) → end < start → start ≤ 255 → ppm ≤ 1_000_000 → Within start end ppm
unfolding channel
falls start end ppm h k l =
    let p = product (start - end) ppm l in
    let s : start - end + (end + 256 - start) ≡ 256 = omega arith in
    let q : 256 * ppm ≡ (start - end) * ppm + (end + 256 - start) * ppm =
    sym (ap (λ (z : ℕ). z * ppm) s) ∙ add-mul (start - end) (end + 256 - start) ppm in
    let n : lifted start end ppm - 256 * ppm ≡ start * 1_000_000 - (start - end) * ppm + 500_000 = omega arith in
    record {
      enough = omega arith;
      small = omega arith;
      is = omega arith ∙ settles (lifted start end ppm - 256 * ppm) (numerator start end ppm) (falling start end ppm h l ∙ ap pos (sym n));
    }

pub within : (start end ppm : ℕ) → start ≤ 255 → end ≤ 255 → ppm ≤ 1_000_000 → Within start end ppm
within start end ppm h k l = by (ltb end start) refl
  where
    by : (t : Bool) → ltb end start ≡ t → Within start end ppm
    by true p = falls start end ppm (ltb-true _ _ p) h l
    by false p = rises start end ppm (ltb-false _ _ p) k l

-- ---- the ends of a channel

ends : (start end : ℕ) → channel start end 1_000_000 ≡ min end 255
unfolding channel
ends start end = by (ltb end start) refl
  where
    by : (t : Bool) → ltb end start ≡ t → held_to_byte (quot_z (numerator start end 1_000_000) (pos 1_000_000)) ≡ min end 255
    by true p =
        let h : end < start = ltb-true _ _ p in
        sym (settles _ _ (falling start end 1_000_000 h (le_refl 1_000_000))) ∙ omega arith
    by false p =
        let h : start ≤ end = ltb-false _ _ p in
        sym (settles _ _ (rising start end 1_000_000 h)) ∙ omega arith

starts : (start end : ℕ) → channel start end 0 ≡ min start 255
unfolding channel
starts start end = by (ltb end start) refl
  where
    by : (t : Bool) → ltb end start ≡ t → held_to_byte (quot_z (numerator start end 0) (pos 1_000_000)) ≡ min start 255
    by true p = sym (settles _ _ (falling start end 0 (ltb-true _ _ p) (lit≤ tt))) ∙ omega arith
    by false p = sym (settles _ _ (rising start end 0 (ltb-false _ _ p))) ∙ omega arith

-- so of three colours the first two meet the last two in the middle
pub joined : (first middle last : Rgb) → interpolate_rgb first middle 1_000_000 ≡ interpolate_rgb middle last 0
unfolding interpolate_rgb
joined first middle last =
    simp (
      ends first.red middle.red,
      ends first.green middle.green,
      ends first.blue middle.blue,
      starts middle.red last.red,
      starts middle.green last.green,
      starts middle.blue last.blue,
    )
