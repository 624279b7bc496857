-- The colours of colour scales, some at a time and in two steps: at a ratio or a place that was held, and of a part of the painted regions.
-- Assumes nothing.
use Prim.Native.Nat.{ℕ, ◌+◌, ◌-◌, ◌≤◌, ◌<◌, min}
use mathlib.Core.Path.{◌≡◌, refl, sym, ap, ◌∙◌, subst}
use mathlib.Core.Bool.{Bool, true, false, cond}
use mathlib.Core.List.{List}
use native.Mathlib.Omega.{arith}
use lib.Dec.{leb}
use lib.Ieee.{Float, le}
use lib.ListN.{length, get_or, take, drop, length-drop}
use lib.Seq.{length-take-le, get_or-take, get_or-drop}
use borrow.Author.Tests.{leb-true, le-leb}
use Rattle.model.specs.Ratio.{ratio, interpolate_rgb, packed}
use Rattle.model.specs.declared.Rgb.{Rgb}
use Rattle.ratio.proofs.Between.{joined}
use Rattle.ratio.proofs.Held.{ratio_at_most}

-- ---- a ratio needs no holding

pub two : (first last : Rgb) (x least greatest : Float)
    → packed (interpolate_rgb first last (min (ratio x least greatest) 1_000_000))
    ≡ packed (interpolate_rgb first last (ratio x least greatest))
two first last x least greatest =
    let held : min (ratio x least greatest) 1_000_000 ≡ ratio x least greatest = omega (arith, ratio_at_most x least greatest) in
    ap (λ (p : ℕ). packed (interpolate_rgb first last p)) held

module _ (first middle last : Rgb) where
  abbrev at : ℕ → Rgb
  at p = cond (leb p 1_000_000) (interpolate_rgb first middle p) (interpolate_rgb middle last (min (p - 1_000_000) 1_000_000))

  lower : (p : ℕ) → p ≤ 1_000_000 → at p ≡ interpolate_rgb first middle p
  lower p h = rw (le-leb p 1_000_000 h)

  upper : (q : ℕ) → q ≤ 1_000_000 → at (1_000_000 + q) ≡ interpolate_rgb middle last q
  upper q h = by (leb (1_000_000 + q) 1_000_000) refl
    where
      by : (t : Bool) → leb (1_000_000 + q) 1_000_000 ≡ t
          → cond t (interpolate_rgb first middle (1_000_000 + q)) (interpolate_rgb middle last (min (1_000_000 + q - 1_000_000) 1_000_000))
          ≡ interpolate_rgb middle last q
      by true p =
          let b : 1_000_000 + q ≤ 1_000_000 = leb-true (1_000_000 + q) 1_000_000 p in
          let none : q ≡ 0 = omega arith in
          let all : 1_000_000 + q ≡ 1_000_000 = omega arith in
          ap (interpolate_rgb first middle) all ∙ joined first middle last ∙ ap (interpolate_rgb middle last) (sym none)
      by false p =
          let held : min (1_000_000 + q - 1_000_000) 1_000_000 ≡ q = omega arith in
          ap (interpolate_rgb middle last) held

  either : (t : Bool) (p q : ℕ) → p ≤ 1_000_000 → q ≤ 1_000_000
      → at (cond t p (1_000_000 + q)) ≡ cond t (interpolate_rgb first middle p) (interpolate_rgb middle last q)
  either true p q h l = lower p h
  either false p q h l = upper q l

  pub three : (x least midpoint greatest : Float)
      → packed (at (cond (le x midpoint) (ratio x least midpoint) (1_000_000 + ratio x midpoint greatest)))
      ≡ packed (cond (le x midpoint) (interpolate_rgb first middle (ratio x least midpoint))
      (interpolate_rgb middle last (ratio x midpoint greatest)))
  three x least midpoint greatest =
      ap packed (either (le x midpoint) (ratio x least midpoint) (ratio x midpoint greatest) (ratio_at_most x least midpoint)
      (ratio_at_most x midpoint greatest))

-- ---- a part of the regions

module _ (hits : List ℕ) {k to : ℕ} (h : k ≤ to) (l : to ≤ length hits) where
  pub part_long : length (take (to - k) (drop k hits)) ≡ to - k
  part_long = length-take-le (to - k) (drop k hits) (omega (arith, length-drop k hits))

  pub part_below : {m : ℕ} → ((j : ℕ) → j < length hits → get_or hits j 0 < m)
      → (j : ℕ) → j < length (take (to - k) (drop k hits)) → get_or (take (to - k) (drop k hits)) j 0 < m
  part_below {m} below j i =
      let e : get_or (take (to - k) (drop k hits)) j 0 ≡ get_or hits (k + j) 0 =
      get_or-take (to - k) (drop k hits) j 0 (omega (arith, part_long)) ∙ get_or-drop k hits j 0 in
      subst (λ (z : ℕ). z < m) (sym e) (below (k + j) (omega (arith, part_long)))
