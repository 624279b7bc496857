-- `call::counts::count_codes` meets its contract. The loop's invariant: up to i the cells in range are counted, each under its code
-- (`Counting`). The measure is how many cells of the band are left. Assumes nothing.
use Prim.Native.Nat.{◌-◌, ◌≤◌}
use lib.ListN.{length}
use Rattle.call.proofs.Counting.{Counting}
use Rattle.call.proofs.counts.count_codes.Given as goal

abbrev pub invariant-loop-i : goal.invariant-loop-i
invariant-loop-i l = (l.initial.start ≤ l.start) × (l.start ≤ l.i) × (l.i ≤ l.to) × Counting l.range l.initial.start l.to l.cols l.codes (length l.initial.counts) l.counts l.i

abbrev pub decreases-loop-i : goal.decreases-loop-i
decreases-loop-i l = l.to - l.i
