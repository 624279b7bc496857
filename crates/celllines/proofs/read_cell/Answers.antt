-- `celllines::read_cell` meets its contract: the bounds in front of the value. Assumes nothing.
use Rattle.celllines.proofs.Values.{value_room}
use Rattle.celllines.proofs.read_cell.Goals as goal

pub read_value-requires : goal.read_value-requires
read_value-requires c = value_room _ _ _ c.in_ok-row.ensures c.in_ok-col.ensures c.in_ok-wraps.ensures c.requires
