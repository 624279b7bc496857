-- `hits::keep` meets its contract. The loop's invariant: the chosen regions so far are counted and stand at the front, and behind the entry
-- that is stored next there are zeros (`Keeping`). Assumes nothing.
use lib.ListN.{length}
use Rattle.hits.proofs.Keeping.{Keeping}
use Rattle.hits.proofs.keep.Given as goal

abbrev pub invariant-loop-i : goal.invariant-loop-i
invariant-loop-i l = Keeping l.from l.chosen (length l.initial.hits) l.hits l.count l.i
