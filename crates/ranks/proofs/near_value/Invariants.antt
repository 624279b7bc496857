-- `ranks::near_value` meets its contract. The loop's invariant: the value at k stands between the floats of two keys (`Halved`). A turn
-- tells by counts on which side of the key tried it stands, whichever key that is. The measure is how far the keys are apart.
-- Assumes nothing.
use Rattle.std.proofs.Common.{◌-◌}
use Rattle.ranks.proofs.Halving.{Halved}
use Rattle.ranks.proofs.near_value.Given as goal

abbrev pub invariant-halving : goal.invariant-halving
invariant-halving l = Halved l.values l.k l.span.lo l.span.hi

abbrev pub decreases-halving : goal.decreases-halving
decreases-halving l = l.span.hi - l.span.lo
