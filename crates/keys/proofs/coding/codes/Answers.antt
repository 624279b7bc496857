-- `keys::codes` meets its contract: the columns hold the keys of the sheet. Assumes nothing.
use mathlib.Core.Path.{sym, ◌∙◌}
use Rattle.keys.proofs.Keys.{held_length}
use Rattle.keys.proofs.coding.codes.Goals as goal

pub returns : goal.returns
returns c cols =
    c.code_keys.ensures _ (c.hold.ensures cols)
    (held_length _ _ 0 _ ∙ sym c.cell_count.ensures)
