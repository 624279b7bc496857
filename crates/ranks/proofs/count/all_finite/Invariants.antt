-- The loop's invariant of `ranks::count::all_finite`: the count so far is that of the values ahead of the index. Assumes nothing.
use Rattle.std.proofs.Common.{◌≡◌, take}
use Rattle.std.specs.List.{count_by}
use Rattle.ranks.proofs.Finite.{bounded}
use Rattle.ranks.proofs.count.all_finite.Given as goal

abbrev pub invariant-loop-x : goal.invariant-loop-x
invariant-loop-x l = l.count ≡ count_by (λ x. bounded x) (take l.x-index l.values)
