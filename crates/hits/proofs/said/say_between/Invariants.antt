-- `say_between` meets its contract. The invariant of its loop: the bytes so far are stored. A turn stores 2
-- where a number is missing, and else the comparison. Assumes nothing.
use lib.Ieee.{nan}
use lib.ListN.{length, get_or}
use Rattle.hits.specs.Said.{say_between}
use Rattle.hits.proofs.Stored.{Stored}
use Rattle.hits.proofs.said.say_between.Given as goal

abbrev pub invariant-loop-i : goal.invariant-loop-i
invariant-loop-i l = Stored (λ j. say_between l.inside (get_or l.values j nan) (get_or l.lows j nan) (get_or l.highs j nan)) (length l.values) l.initial.said l.said l.i
