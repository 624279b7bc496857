-- `call::shapes::half_of` meets its contract: by the comparison. Assumes nothing.
use Rattle.call.proofs.shapes.half_of.Goals as goal

pub returns-then-x-midpoint : goal.returns-then-x-midpoint
returns-then-x-midpoint c = rw c.if-x-midpoint.true

pub returns-else-x-midpoint : goal.returns-else-x-midpoint
returns-else-x-midpoint c = rw c.if-x-midpoint.false
