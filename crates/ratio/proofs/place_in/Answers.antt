-- `ratio::place_in` meets its contract: its operations are the definition's, but for how the quotient is held. Assumes nothing.
use mathlib.Core.Path.{◌∙◌}
use lib.Ieee.{of_bits}
use Rattle.ratio.specs.Spanned.{spanned}
use Rattle.ratio.proofs.Held.{product_up_to}
use Rattle.ratio.proofs.place_in.Goals as goal

pub rounded-requires : goal.rounded-requires
unfolding of_bits
rounded-requires c = product_up_to c.held_to_unit.result c.held_to_unit.ensures.unit

pub returns : goal.returns
unfolding spanned of_bits
returns c = c.rounded.ensures ∙ c.held_to_unit.ensures.same
