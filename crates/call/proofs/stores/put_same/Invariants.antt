-- `call::stores::put_same` meets its contract. The loop's invariant: the values left, put on from n + k, make of the column so far what all
-- of them make of the column at first. Assumes nothing.
use lib.ListN.{replicate}
use Rattle.call.proofs.Putting.{Put}
use Rattle.call.proofs.stores.put_same.Given as goal

abbrev pub invariant-loop-k : goal.invariant-loop-k
invariant-loop-k l = Put l.n (replicate l.count l.value) l.initial.column l.column l.k
