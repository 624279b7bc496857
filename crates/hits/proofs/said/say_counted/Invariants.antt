-- `say_counted` meets its contract. The invariant of its loop: the bytes so far are stored. Assumes nothing.
use lib.ListN.{length, get_or}
use Rattle.hits.specs.Said.{say_counted}
use Rattle.hits.proofs.Stored.{Stored}
use Rattle.hits.proofs.said.say_counted.Given as goal

abbrev pub invariant-loop-i : goal.invariant-loop-i
invariant-loop-i l = Stored (λ j. say_counted l.unique (get_or l.founds j 0)) (length l.founds) l.initial.said l.said l.i
