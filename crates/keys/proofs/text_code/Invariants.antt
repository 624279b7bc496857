-- `keys::text_code` meets its contract. The loop's invariant: the code so far, carried through what is left from the index on, comes to the
-- code of the whole text. Assumes nothing.
use Rattle.keys.proofs.Searching.{CodeFrom}
use Rattle.keys.proofs.text_code.Given as goal

abbrev pub invariant-loop-b : goal.invariant-loop-b
invariant-loop-b l = CodeFrom l.text l.code l.b-index
