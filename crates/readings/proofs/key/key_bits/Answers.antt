-- `readings::key::key_bits`: a finite number is no not-a-number. Assumes nothing.
use Rattle.std.proofs.Common.{◌≡◌, true, not, sym, subst}
use lib.Dec.{T}
use lib.Ieee.{Float, nan, inf, fin, is_nan}
use Rattle.model.specs.Readings.{finite}
use Rattle.readings.proofs.key.key_bits.Goals as goal

finite_number : (x : Float) → finite x ≡ true → T (not (is_nan x))
unfolding finite is_nan
finite_number nan h = subst T (sym h) tt
finite_number (inf s) h = tt
finite_number (fin s m e) h = tt

pub float_to_bits-bits : goal.float_to_bits-bits
float_to_bits-bits c = finite_number _ c.requires
