use mathlib.Core.Path.{sym, ap, ◌∙◌}
use native.Mathlib.Omega.{arith}
use Rattle.model.specs.Readings.{conditional_value_key}
use Rattle.keys.proofs.Keys.{held_length, held_at, held_spanned}
use Rattle.keys.proofs.Holding.{holding_begun, holding_more, holding_held}
use Rattle.keys.proofs.coding.hold.Goals as goal

pub loop-i-init : goal.loop-i-init
loop-i-init c cols =
    holding_begun c.requires.0 c.requires.1

pub loop-i-preserved : goal.loop-i-preserved
loop-i-preserved c cols =
    let h = c.loop-i-test.true in
    holding_more (c.loop-i.invariant cols)
    (rw held_length h)
    (omega (arith, h, c.cell_count-i-end.ensures))
    (c.conditional_value_key-key.ensures
    ∙ ap (conditional_value_key _) (c.cell_from.ensures _ _)
    ∙ sym (held_at _ _ _ _ h))
    c.tag.ensures c.word.ensures

pub returns : goal.returns
returns c cols =
    rw (← c.cell_count-i-end.ensures)
    (holding_held (c.loop-i.invariant cols) (rw held_length c.loop-i-test.false) (held_spanned _ _ _))
