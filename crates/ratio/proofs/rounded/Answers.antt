-- `ratio::rounded` meets its contract, by the laws of proofs/Rounding.antt. Assumes nothing.
use native.Mathlib.Omega.{arith}
use lib.Ieee.{binary64, add, sub, le, of_bits}
use Rattle.ratio.proofs.Rounding.{big_f, half_f, byte_most, Nearest, nearest_of}
use Rattle.ratio.proofs.rounded.Goals as goal
use Rattle.ratio.proofs.rounded.Goals.{Start}

near : (c : Start) → Nearest c.args.x (add binary64 c.args.x big_f)
near c = nearest_of c.args.x c.requires

pub float_to_bits-result : goal.float_to_bits-result
unfolding of_bits
float_to_bits-result c = (near c).number

pub overflow_add-result : goal.overflow_add-result
unfolding of_bits
overflow_add-result c = rw (near c).bits (omega (arith, (near c).small, byte_most (le (add binary64 (sub binary64 (add binary64 c.args.x big_f) big_f) half_f) c.args.x)))

pub returns : goal.returns
unfolding of_bits
returns c = rw (near c).bits (near c).rounds
