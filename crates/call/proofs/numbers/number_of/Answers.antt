-- `call::numbers::number_of` meets its contract: by the kind, the wraps and the exponent there is a number, and 0 / 0 is not-a-number.
-- Assumes nothing.
use lib.Ieee.{div, of_bits}
use Rattle.call.proofs.Numbering.{bits_number, number_there, number_lacking}
use Rattle.call.proofs.numbers.number_of.Goals as goal

pub float_from_bits-result : goal.float_from_bits-result
float_from_bits-result c = let x = c.args in bits_number x.kind x.wraps x.bits c.if-kind-wraps.true

pub returns-then-kind-wraps : goal.returns-then-kind-wraps
returns-then-kind-wraps c at len = let x = c.args in number_there x.kind x.wraps x.bits at len c.if-kind-wraps.true

pub returns : goal.returns
unfolding div of_bits
returns c at len = let x = c.args in number_lacking x.kind x.wraps x.bits at len c.if-kind-wraps.false
