use mathlib.Core.Path.{sym, ◌∙◌}
use native.Mathlib.Omega.{arith}
use Rattle.a1reader.proofs.Runs.{passed_more, passed_ended, passed_stops}
use Rattle.a1reader.proofs.word_end.Goals as goal

pub returns-then-not-is_word_byte : goal.returns-then-not-is_word_byte
returns-then-not-is_word_byte c =
    passed_stops c.loop-q.invariant (omega arith) (sym c.is_word_byte.ensures ∙ c.if-not-is_word_byte.true)

pub loop-q-preserved : goal.loop-q-preserved
loop-q-preserved c =
    passed_more c.loop-q.invariant (omega arith) (sym c.is_word_byte.ensures ∙ c.if-not-is_word_byte.false)

pub returns : goal.returns
returns c = let end = passed_ended c.loop-q.invariant (omega arith) in omega (arith, end)
