-- `a1reader::store_name` meets its contract. The loop's invariant: storing the bytes left from here on gives what storing all of them from
-- the start gives, and two places of the text are passed at most for a byte. Assumes nothing.
use Rattle.a1reader.proofs.Storing.{Left}
use Rattle.a1reader.proofs.store_name.Given as goal

abbrev pub invariant-loop-i : goal.invariant-loop-i
invariant-loop-i l = Left l.s l.first l.number l.initial.name l.name l.i l.q
