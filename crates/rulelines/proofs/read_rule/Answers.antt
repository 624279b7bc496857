-- `rulelines::read_rule` stays in bounds behind the range. Assumes nothing.
use native.Mathlib.Omega.{arith}
use Rattle.rulelines.proofs.Rooms.{past_number}
use Rattle.rulelines.proofs.read_rule.Goals as goal

pub read_behind-requires : goal.read_behind-requires
read_behind-requires c =
    past_number (omega arith) (omega arith) c.in_ok-right.ensures
    (past_number (omega arith) (omega arith) c.in_ok-bottom.ensures
    (past_number (omega arith) (omega arith) c.in_ok-left.ensures (past_number (omega arith) (omega arith) c.in_ok-top.ensures c.requires)))
