use Rattle.put.proofs.Storing.{Pairs}
use Rattle.put.proofs.lay_pairs.Given as goal

abbrev pub invariant-loop-b : goal.invariant-loop-b
invariant-loop-b l = Pairs l.initial.text l.at l.piece l.text l.end l.b-index
