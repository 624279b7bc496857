-- The loop's invariant of `ranks::count::count_ahead_of_zero`: the count so far is that of the values ahead of the index. Assumes nothing.
use Rattle.std.proofs.Common.{◌≡◌, take}
use Rattle.std.specs.List.{count_by}
use Rattle.model.specs.Ratio.{zero_f}
use Rattle.model.specs.Values.{comes_before}
use Rattle.ranks.proofs.count.count_ahead_of_zero.Given as goal

abbrev pub invariant-loop-x : goal.invariant-loop-x
invariant-loop-x l = l.count ≡ count_by (λ x. comes_before x zero_f) (take l.x-index l.values)
