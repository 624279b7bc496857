-- `say_outside` meets its contract. The invariant of its loop: the bytes so far are stored. Assumes nothing.
use mathlib.Core.Bool.{false}
use lib.Ieee.{nan}
use lib.ListN.{length, get_or}
use Rattle.hits.specs.Said.{interval, say_interval}
use Rattle.hits.proofs.Stored.{Stored}
use Rattle.hits.proofs.said.say_outside.Given as goal

abbrev pub invariant-loop-i : goal.invariant-loop-i
invariant-loop-i l = Stored (λ j. say_interval (interval false l.low l.high) (get_or l.values j nan)) (length l.values) l.initial.said l.said l.i
