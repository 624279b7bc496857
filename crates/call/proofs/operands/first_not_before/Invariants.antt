-- `call::operands::first_not_before` meets its contract. The loop's invariant: the cells before low come before the coordinate, those from
-- high on do not. The cells rise, so that the one in the middle tells of all on one side of it. The measure is what is between.
-- Assumes nothing.
use Prim.Native.Nat.{◌-◌}
use Rattle.call.proofs.Seeking.{Parted}
use Rattle.call.proofs.operands.first_not_before.Given as goal

abbrev pub invariant-loop-low : goal.invariant-loop-low
invariant-loop-low l = Parted l.rows l.cols l.at l.low l.high

abbrev pub decreases-loop-low : goal.decreases-loop-low
decreases-loop-low l = l.high - l.low
