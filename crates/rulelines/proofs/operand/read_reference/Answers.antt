-- `rulelines::operand::read_reference` stays in bounds up to the name. Assumes nothing.
use native.Mathlib.Omega.{arith}
use Rattle.rulelines.proofs.Rooms.{past_number}
use Rattle.rulelines.proofs.operand.read_reference.Goals as goal

pub read_name-requires : goal.read_name-requires
read_name-requires c =
    past_number (omega arith) (omega arith) c.in_ok-absolute.ensures
    (past_number (omega arith) (omega arith) c.in_ok-col.ensures (past_number (omega arith) (omega arith) c.in_ok-row.ensures c.requires))
