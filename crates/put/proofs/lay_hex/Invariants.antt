use Rattle.put.proofs.Storing.{Digits}
use Rattle.put.proofs.lay_hex.Given as goal

abbrev pub invariant-loop-i : goal.invariant-loop-i
invariant-loop-i l = Digits l.initial.text l.at l.k l.n l.text l.i l.rest
