use Rattle.put.proofs.Storing.{Storing}
use Rattle.put.proofs.lay_bytes.Given as goal

abbrev pub invariant-loop-i : goal.invariant-loop-i
invariant-loop-i l = Storing l.initial.text l.at l.piece l.text l.i
