-- `celllines::read_value` meets its contract: the length of a text, and its bytes in the pool. Assumes nothing.
use native.Mathlib.Omega.{arith}
use Rattle.fields.proofs.Bounds.{text_small}
use Rattle.fields.proofs.Room.{room_used}
use Rattle.celllines.proofs.Values.{text_kept}
use Rattle.celllines.proofs.read_value.Goals as goal

pub overflow_cast-result-in-Ok-byte-2 : goal.overflow_cast-result-in-Ok-byte-2
overflow_cast-result-in-Ok-byte-2 c = omega (arith, text_small _ _ _ _ _ c.in_ok-text.ensures.value, c.requires.short)

pub overflow_add-result : goal.overflow_add-result
overflow_add-result c = omega (arith, text_small _ _ _ _ _ c.in_ok-text.ensures.value, c.requires.short, room_used c.requires)

pub returns-in-Ok-byte-2-clause-value_stored : goal.returns-in-Ok-byte-2-clause-value_stored
returns-in-Ok-byte-2-clause-value_stored c =
    text_kept c.args.s.now c.args.at c.args.used c.args.pool.now c.in_default.ensures c.in_default-byte.ensures c.in-Ok-byte-2.ensures
    c.text.ensures.pool_after
