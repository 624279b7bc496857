-- `call::gathered::count_numbers` meets its contract. The loop's invariant: the count so far and the numbers from i on come to all numbers. Assumes nothing.
use Prim.Native.Nat.{◌+◌, ◌≤◌}
use mathlib.Core.Path.{◌≡◌}
use lib.ListN.{drop}
use Rattle.call.proofs.Gathering.{numbers_among}
use Rattle.call.proofs.gathered.count_numbers.Given as goal

abbrev pub invariant-loop-x : goal.invariant-loop-x
invariant-loop-x l = (l.count ≤ l.x-index) × (l.count + numbers_among (drop l.x-index l.floats) ≡ numbers_among l.floats)
