-- `a1reader::word_end` meets its contract. The loop's invariant: the bytes of the word that are left end where the word ends. Assumes nothing.
use Rattle.a1text.specs.Bytes.{is_word_byte}
use Rattle.a1reader.proofs.Runs.{Passed}
use Rattle.a1reader.proofs.word_end.Given as goal

abbrev pub invariant-loop-q : goal.invariant-loop-q
invariant-loop-q l = Passed is_word_byte l.s l.q
