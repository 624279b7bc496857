-- `call::picked::list_in` meets its contract. The loop's invariant: the regions in range ahead of i stand at the front of the list,
-- and those from i on are left (`Listed`). The measure is what is left of the band. Assumes nothing.
use Prim.Native.Nat.{◌-◌}
use Rattle.call.proofs.Listing.{Listed}
use Rattle.call.proofs.picked.list_in.Given as goal

abbrev pub invariant-loop-i : goal.invariant-loop-i
invariant-loop-i l = Listed l.range l.cols l.initial.start l.to l.initial.list l.list l.count l.start l.i

abbrev pub decreases-loop-i : goal.decreases-loop-i
decreases-loop-i l = l.to - l.i
