-- `call::picked::put_back` meets its contract. The loop's invariant: the regions that the places left mean, stored from k on, make of the
-- memory so far what all of them make of zeros. Assumes nothing.
use Prim.Native.Nat.{ℕ}
use lib.ListN.{get_or}
use Rattle.call.proofs.Putting.{PutBy}
use Rattle.call.proofs.picked.put_back.Given as goal

abbrev pub invariant-loop-k : goal.invariant-loop-k
invariant-loop-k l = PutBy 0 (λ (h : ℕ). get_or l.list h 0) l.places l.initial.hits l.hits l.k
