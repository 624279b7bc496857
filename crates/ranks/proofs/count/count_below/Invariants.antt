-- The loop's invariant of `ranks::count::count_below`: the count so far is that of the values ahead of the index. Assumes nothing.
use Rattle.std.proofs.Common.{◌≡◌, take}
use Rattle.std.specs.List.{count_by}
use lib.Ieee.{lt}
use Rattle.ranks.proofs.count.count_below.Given as goal

abbrev pub invariant-loop-x : goal.invariant-loop-x
invariant-loop-x l = l.count ≡ count_by (λ x. lt x l.t) (take l.x-index l.values)
