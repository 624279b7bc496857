-- `a1reader::between_quotes` meets its contract. The loop's invariant: the name from here on, behind its bytes passed, is the name from the
-- start on. A turn passes one byte of the name. The measure is what is left of the text. Assumes nothing.
use Prim.Native.Nat.{◌-◌}
use Rattle.a1reader.proofs.Quotes.{Quoting}
use Rattle.a1reader.proofs.between_quotes.Given as goal

abbrev pub invariant-loop-q : goal.invariant-loop-q
invariant-loop-q l = Quoting l.s l.at l.length l.printable l.q

abbrev pub decreases-loop-q : goal.decreases-loop-q
decreases-loop-q l = lib.ListN.length l.s - l.q
