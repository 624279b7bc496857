-- The two parts of a ratio, each by itself: its ppm, and the shape, in which the value has no part. Assumes nothing.
use mathlib.Core.Path.{◌≡◌, refl}
use mathlib.Core.Bool.{Bool, true, false, cond}
use lib.Ieee.{Float, binary64, sub, mul, le}
use Rattle.model.specs.declared.Shape.{Shape}
use Rattle.model.specs.declared.Normalized.{Normalized}
use Rattle.model.specs.Readings.{finite}
use Rattle.model.specs.Ratio.{million_f, held_to_unit, rounded, quotient, normalized, ratio}

part_of : {A : Type 0} (part : Normalized → A) (t : Bool) (x y : Normalized) → part (cond t x y) ≡ cond t (part x) (part y)
part_of part true x y = refl
part_of part false x y = refl

pub ratio_is : (v a b : Float) → ratio v a b ≡ cond (le b a) 1_000_000 (rounded (mul binary64 (held_to_unit (quotient v a b)) million_f))
unfolding ratio normalized
ratio_is v a b = part_of (λ n. n.ppm) (le b a) _ _

pub shape_is : (v a b : Float) → (normalized v a b).shape ≡ cond (le b a) Shape.Flat (cond (finite (sub binary64 b a)) Shape.Plain Shape.TooWide)
unfolding normalized
shape_is v a b = part_of (λ n. n.shape) (le b a) _ _
