-- `fields::count_pairs` meets its contract. The loop's invariant: the bytes counted so far and those from here on are all that there
-- are. A pair passes on to the next. The measure is what is left of the text. Assumes nothing.
use Prim.Native.Nat.{◌-◌, ◌≤◌}
use mathlib.Core.Path.{◌≡◌}
use lib.ListN.{length, drop}
use Rattle.grammar.specs.Numbers.{pairs_from}
use Rattle.fields.specs.Field.{counted}
use Rattle.fields.proofs.count_pairs.Given as goal

abbrev pub invariant-loop-next : goal.invariant-loop-next
invariant-loop-next l = (counted l.number (pairs_from l.end l.next (drop l.next l.s)) ≡ counted 0 (pairs_from l.end l.at (drop l.at l.s))) × (l.number ≤ l.next)

abbrev pub decreases-loop-next : goal.decreases-loop-next
decreases-loop-next l = length l.s - l.next
