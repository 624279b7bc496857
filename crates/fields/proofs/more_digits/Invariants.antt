-- `fields::more_digits` meets its contract. The loop's invariant: reading on from here gives what reading on from the start gives.
-- A digit that fits passes on to the next. Assumes nothing.
use mathlib.Core.Path.{◌≡◌}
use lib.ListN.{drop}
use Rattle.grammar.specs.Numbers.{decimal_from}
use Rattle.fields.proofs.more_digits.Given as goal

abbrev pub invariant-loop-i : goal.invariant-loop-i
invariant-loop-i l = decimal_from l.limit l.value l.i (drop l.i l.s) ≡ decimal_from l.limit l.acc l.at (drop l.at l.s)
