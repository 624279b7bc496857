-- `ratio::normalized_ppm` meets its contract: its operations are the definition's, but for how the quotient is held. Assumes nothing.
use mathlib.Core.Path.{◌≡◌, ◌∙◌}
use mathlib.Core.Bool.{true}
use lib.Ieee.{le, of_bits}
use Rattle.model.specs.Ratio.{quotient}
use Rattle.model.proofs.RatioParts.{ratio_is}
use Rattle.ratio.proofs.Held.{product_up_to}
use Rattle.ratio.proofs.normalized_ppm.Goals as goal

pub rounded-ppm-requires : goal.rounded-ppm-requires
unfolding of_bits
rounded-ppm-requires c = product_up_to c.held_to_unit.result c.held_to_unit.ensures.unit

pub returns-then-maximum-minimum : goal.returns-then-maximum-minimum
returns-then-maximum-minimum c =
    let a = c.args in
    let flat : le a.maximum a.minimum ≡ true = c.if-maximum-minimum.true in
    rw (ratio_is, flat)

pub returns-else-maximum-minimum : goal.returns-else-maximum-minimum
unfolding quotient of_bits
returns-else-maximum-minimum c =
    c.rounded-ppm.ensures ∙ c.held_to_unit.ensures.same ∙ rw (ratio_is, c.if-maximum-minimum.false)
