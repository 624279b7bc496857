-- `rulelines::read_behind` stays in bounds up to the rule word. Assumes nothing.
use Rattle.rulelines.proofs.Rooms.{past_priority, past_flag}
use Rattle.rulelines.proofs.read_behind.Goals as goal

pub read_kind-requires : goal.read_kind-requires
read_kind-requires c = past_flag c.in_ok-imported.ensures (past_flag c.in_ok-stop.ensures (past_priority c.in_ok-priority.ensures c.requires))
