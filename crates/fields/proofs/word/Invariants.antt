-- `fields::word` meets its contract. The loop's invariant: reading what is left of the word from here gives what reading the whole
-- word from the start gives. Assumes nothing.
use mathlib.Core.Path.{◌≡◌}
use lib.ListN.{drop}
use Rattle.grammar.specs.Parts.{word_p}
use Rattle.fields.proofs.word.Given as goal

abbrev pub invariant-loop-b : goal.invariant-loop-b
invariant-loop-b l = word_p (drop l.b-index l.w) l.s l.next ≡ word_p l.w l.s l.at
