-- `say_compared` meets its contract. The invariant of its loop: the bytes so far are stored. A turn stores 2
-- where a number is missing, and else the comparison. Assumes nothing.
use lib.Ieee.{nan}
use lib.ListN.{length, get_or}
use Rattle.hits.specs.Said.{wanted_as, say_compared}
use Rattle.hits.proofs.Stored.{Stored}
use Rattle.hits.proofs.said.say_compared.Given as goal

abbrev pub invariant-loop-i : goal.invariant-loop-i
invariant-loop-i l = Stored (λ j. say_compared (wanted_as l.less l.same l.more) l.needed (get_or l.left j nan) (get_or l.right j nan)) (length l.left) l.initial.said l.said l.i
