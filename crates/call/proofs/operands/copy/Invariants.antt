-- `call::operands::copy` meets its contract. The loop's invariant: from the band's first index up to i the column has the other's numbers.
-- Assumes nothing.
use Prim.Native.Nat.{ℕ}
use lib.Dec.{leb}
use lib.Ieee.{nan}
use lib.ListN.{get_or}
use Rattle.call.proofs.Filling.{FilledIn}
use Rattle.call.proofs.operands.copy.Given as goal

abbrev pub invariant-loop-i : goal.invariant-loop-i
invariant-loop-i l = FilledIn nan (leb l.fn.band.from) (λ (k : ℕ). get_or l.values k nan) l.initial.column l.column l.i
