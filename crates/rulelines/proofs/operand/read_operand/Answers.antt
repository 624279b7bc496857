-- `rulelines::operand::read_operand` stays in bounds behind an `r`. Assumes nothing.
use Rattle.rulelines.proofs.Rooms.{past_letter}
use Rattle.rulelines.proofs.operand.read_operand.Goals as goal

pub read_reference-requires : goal.read_reference-requires
read_reference-requires c = past_letter 114 c.in-Ok-byte.ensures c.requires
