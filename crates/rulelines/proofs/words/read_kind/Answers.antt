-- `rulelines::words::read_kind` stays in bounds behind its words. Assumes nothing.
use Rattle.rulelines.proofs.Rooms.{past_word}
use Rattle.rulelines.proofs.words.read_kind.Goals as goal

pub read_cell_is-requires : goal.read_cell_is-requires
read_cell_is-requires c = past_word _ c.in-Ok.ensures c.requires

pub read_expr-requires : goal.read_expr-requires
read_expr-requires c = past_word _ c.in_ok-next.ensures c.requires
