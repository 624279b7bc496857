-- `call::gathered::are_values` meets its contract: some cell of the band is out of range; or all are in it, and that they have numbers is
-- told of all cells, or of the band's own floats. Assumes nothing.
use native.Mathlib.Omega.{arith}
use mathlib.Core.Bool.{false≢true}
use Rattle.call.proofs.Gathering.{part_numbers}
use Rattle.call.proofs.gathered.are_values.Goals as goal

pub returns-then-inside-to : goal.returns-then-inside-to
returns-then-inside-to c told = absurd (false≢true told)

pub returns-then-numeric : goal.returns-then-numeric
returns-then-numeric c told =
    (c.if-inside-to.false, λ i a b. c.requires.2 c.if-numeric.true i (omega arith) (omega (arith, b, c.requires.1)))

pub returns : goal.returns
returns c told = (
  c.if-inside-to.false,
  part_numbers c.args.floats.now _ _ c.requires.0 c.requires.1 (c.all_numeric.ensures told),
)
