-- `call::marks::stop_regions` meets its contract. The loop's invariant: the regions left make of the flags so far what all of them make of
-- the flags at first. A region past the end has no flag. Assumes nothing.
use Rattle.call.proofs.Drawing.{Flagged}
use Rattle.call.proofs.marks.stop_regions.Given as goal

abbrev pub invariant-loop-hit : goal.invariant-loop-hit
invariant-loop-hit l = Flagged l.hits l.initial.flags l.flags l.hit-index
