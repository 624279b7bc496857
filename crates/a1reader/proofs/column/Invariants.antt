-- `a1reader::column` meets its contract. The loop's invariant: the column from here on, behind the letters passed, is the column from the
-- start on. A letter counts on, and once the number is too high it stays so. Assumes nothing.
use Rattle.a1reader.proofs.Columns.{Counted}
use Rattle.a1reader.proofs.column.Given as goal

abbrev pub invariant-loop-q : goal.invariant-loop-q
invariant-loop-q l = Counted l.s l.at l.number l.q
