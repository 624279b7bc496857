-- `rulelines::compared::read_expr` stays in bounds behind its operator. Assumes nothing.
use native.Mathlib.Omega.{arith}
use Rattle.rulelines.proofs.Rooms.{past_number}
use Rattle.rulelines.proofs.compared.read_expr.Goals as goal

pub read_sides-requires : goal.read_sides-requires
read_sides-requires c = past_number (omega arith) (omega arith) c.in_ok-number.ensures c.requires
