-- `ranks::key::key_of` is safe: a finite number is no not-a-number, and its bits are a u64. Assumes nothing.
use Rattle.std.proofs.Common.{◌≡◌, true, not, T, sym, ◌∙◌, subst, arith}
use lib.Ieee.{Float, nan, inf, fin, binary64, is_nan}
use lib.Ieee.Bits.{to_bits-lt}
use denote.Floats.{passes}
use Rattle.model.specs.Readings.{finite}
use Rattle.ranks.proofs.key.key_of.Goals as goal

finite_number : (x : Float) → finite x ≡ true → T (not (is_nan x))
unfolding finite is_nan
finite_number nan h = subst T (sym h) tt
finite_number (inf s) h = tt
finite_number (fin s m e) h = tt

pub float_to_bits-bits : goal.float_to_bits-bits
float_to_bits-bits c = finite_number _ (sym c.is_finite.ensures ∙ c.if-not-is_finite.false)

pub overflow_sub-result : goal.overflow_sub-result
overflow_sub-result c = omega (arith, to_bits-lt binary64 _ (passes _ c.well_formed.0.1))
