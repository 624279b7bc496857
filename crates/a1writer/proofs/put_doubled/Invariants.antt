-- `a1writer::put_doubled` meets its contract. The loop's invariant: the bytes of the name that are left, each quote twice, put from here
-- on, give what the whole name gives from the start. Assumes nothing.
use Rattle.a1writer.proofs.Doubled.{Doubling}
use Rattle.a1writer.proofs.put_doubled.Given as goal

abbrev pub invariant-loop-b : goal.invariant-loop-b
invariant-loop-b l = Doubling l.initial.text l.name l.text l.b-index
