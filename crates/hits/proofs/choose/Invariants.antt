-- `hits::choose` meets its contract. The loop's invariant: the bytes so far are stored, and those from the next one on are as they were.
-- Assumes nothing.
use mathlib.Core.Bool.{cond}
use Rattle.hits.specs.Chosen.{stands}
use Rattle.hits.proofs.Stored.{Replaced}
use Rattle.hits.proofs.choose.Given as goal

abbrev pub invariant-loop-i : goal.invariant-loop-i
invariant-loop-i l = Replaced (λ j. cond (stands 1 l.range l.flags l.cols l.initial.said j) 1 0) l.initial.said l.said l.i
