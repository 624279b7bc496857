-- `call::scales::put_scale2` meets its contract. The loop's invariant: the values of the regions left, put on from n + k, make of the
-- column so far what those of all regions make of the column at first. The measure is how many stores are left. Assumes nothing.
use Prim.Native.Nat.{◌-◌}
use lib.Ieee.{nan}
use lib.ListN.{get_or}
use Rattle.model.specs.Ratio.{ratio, interpolate_rgb, packed}
use Rattle.call.proofs.Putting.{PutBy}
use Rattle.call.proofs.scales.put_scale2.Given as goal

abbrev pub invariant-loop-k : goal.invariant-loop-k
invariant-loop-k l = PutBy l.n (λ h. packed (interpolate_rgb l.first l.last (ratio (get_or l.values h nan) l.least l.greatest))) l.hits l.initial.column l.column l.k

abbrev pub decreases-loop-k : goal.decreases-loop-k
decreases-loop-k l = l.end - l.k
