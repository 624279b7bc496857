-- What a rule of each kind comes to, in the code's steps: from the bounds of the values, and from whether there are values at all.
-- Assumes nothing.
use Rattle.std.specs.Prelude.{None, Some}
use Prim.Native.Nat.{ℕ, zero, suc}
use mathlib.Core.Path.{◌≡◌, refl}
use mathlib.Core.Bool.{Bool}
use mathlib.Core.List.{List, [], ◌∷◌}
use native.Mathlib.Omega.{arith}
use lib.ListN.{length}
use lib.Ieee.{Float}
use Rattle.model.specs.declared.Rgb.{Rgb}
use Rattle.model.specs.declared.Test.{Test}
use Rattle.model.specs.declared.Plan.{Plan}
use Rattle.model.specs.Values.{sorted, midpoint, selected, threshold, average}
use Rattle.model.specs.Rule.{scale2, scale3, bar, rank, against, mean}
use Rattle.values.specs.Bounds.{Bounds, bounds_of}

-- ---- by bounds

-- tested between bounds, and skipped without
abbrev pub tested_between : (Float → Float → Test) → Bounds → Plan
tested_between test (Some b) = Plan.Tested (test b.least b.greatest)
tested_between test None = Plan.Skipped

pub scale2_bounds : (min max : Rgb) (xs : List Float) → scale2 min max xs ≡ tested_between (Test.ColorScale2 min max) (bounds_of xs)
unfolding scale2 bounds_of
scale2_bounds min max [] = refl
scale2_bounds min max (x ∷ xs) = refl

pub scale3_bounds : (min mid max : Rgb) (xs : List Float)
    → scale3 min mid max xs ≡ tested_between (λ low high. Test.ColorScale3 min mid max low (midpoint (sorted xs)) high) (bounds_of xs)
unfolding scale3 bounds_of
scale3_bounds min mid max [] = refl
scale3_bounds min mid max (x ∷ xs) = refl

pub bar_bounds : (color : Rgb) (xs : List Float) → bar color xs ≡ tested_between (Test.DataBar color) (bounds_of xs)
unfolding bar bounds_of
bar_bounds color [] = refl
bar_bounds color (x ∷ xs) = refl

-- ---- by number of values

module _ (bottom percent : Bool) (fill : Rgb) where
  pub rank_none : (number : ℕ) (xs : List Float) → length xs ≡ 0 → rank number bottom percent fill xs ≡ Plan.Skipped
  unfolding rank
  rank_none number [] h = refl
  rank_none number (x ∷ xs) h = absurd (omega arith)

  pub rank_zero : (xs : List Float) → rank 0 bottom percent fill xs ≡ Plan.Skipped
  unfolding rank
  rank_zero [] = refl
  rank_zero (x ∷ xs) = refl

  pub rank_some : (number : ℕ) (xs : List Float) → (length xs ≡ 0 → ⊥) → (number ≡ 0 → ⊥) → rank number bottom percent fill xs
      ≡ Plan.Tested (Test.TopBottom bottom (threshold bottom (selected percent number (length xs)) (sorted xs)) fill)
  unfolding rank
  rank_some number [] h k = absurd (h refl)
  rank_some zero (x ∷ xs) h k = absurd (k refl)
  rank_some (suc n) (x ∷ xs) h k = refl

module _ (below : Bool) (fill : Rgb) where
  pub mean_none : (xs : List Float) → length xs ≡ 0 → mean below fill xs ≡ Plan.Skipped
  unfolding mean
  mean_none [] h = refl
  mean_none (x ∷ xs) h = absurd (omega arith)

  pub mean_some : (xs : List Float) → (length xs ≡ 0 → ⊥) → mean below fill xs ≡ against below fill (average xs)
  unfolding mean
  mean_some [] h = absurd (h refl)
  mean_some (x ∷ xs) h = refl
