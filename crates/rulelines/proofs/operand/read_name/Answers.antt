-- `rulelines::operand::read_name`: the bounds of a name, and what it leaves in the pool. Assumes nothing.
use mathlib.Core.Path.{◌∙◌}
use lib.ListN.{drop}
use native.Mathlib.Omega.{arith}
use Rattle.grammar.specs.Parts.{bytes}
use Rattle.grammar.specs.Numbers.{pairs_from}
use Rattle.fields.proofs.Bounds.{text_small}
use Rattle.fields.proofs.Laws.{word_byte, word_got, word_bad}
use Rattle.fields.proofs.Room.{room_used}
use Rattle.jobtext.specs.Fields.{reference_name, text_field}
use Rattle.rulelines.proofs.Pools.{name_pooled}
use Rattle.rulelines.proofs.operand.read_name.Goals as goal

pub overflow_cast-span-2 : goal.overflow_cast-span-2
overflow_cast-span-2 c = omega (arith, text_small _ _ _ _ _ c.in_ok-name.ensures.value, c.requires.short)

pub overflow_add-result : goal.overflow_add-result
overflow_add-result c = omega (arith, text_small _ _ _ _ _ c.in_ok-name.ensures.value, c.requires.short, room_used c.requires)

pub returns-clause-pooled : goal.returns-clause-pooled
unfolding reference_name text_field bytes
returns-clause-pooled c =
    rw (word_byte 45 c.args.s.now c.args.at ∙ word_bad _ c.in_default.ensures, word_byte 116 c.args.s.now c.args.at ∙ word_got _ c.in_ok-mark.ensures)
    (name_pooled (pairs_from 32 c.in_ok-mark.mark (drop c.in_ok-mark.mark c.args.s.now)) c.args.used c.args.pool.now c.text.ensures.pool_after)
