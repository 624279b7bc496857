-- `places::follow` meets its contract. The loop's invariant: the entries so far and those of the walk that is left come to the whole, and
-- so do the comparisons. A comparison takes one of them over, by its side. The measure is how many cells and regions are left.
-- Assumes nothing.
use Prim.Native.Nat.{◌+◌, ◌-◌}
use lib.ListN.{length}
use Rattle.places.proofs.Walking.{Walking}
use Rattle.places.proofs.follow.Given as goal

abbrev pub invariant-loop-i : goal.invariant-loop-i
invariant-loop-i l = Walking l.rows l.cols l.region_rows l.region_cols (length l.initial.places) l.places l.comparisons l.i l.k

abbrev pub decreases-loop-i : goal.decreases-loop-i
decreases-loop-i l = (length l.rows - l.i) + (length l.region_rows - l.k)
