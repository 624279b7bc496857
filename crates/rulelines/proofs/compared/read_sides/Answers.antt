-- `rulelines::compared::read_sides` stays in bounds, and its operands' names stand in the pool one after the other. Assumes nothing.
use Rattle.grammar.specs.Parts.{bytes}
use Rattle.jobtext.specs.Fields.{operand}
use Rattle.jobtext.specs.Rules.{second_if}
use Rattle.jobtext.specs.Laid.{operand_at, operand_bytes}
use Rattle.rulelines.specs.Sides.{sides, sides_bytes}
use Rattle.rulelines.proofs.Told.{placed_got, laid_got}
use Rattle.rulelines.proofs.Rooms.{past_operand}
use Rattle.rulelines.proofs.Pools.{stored_both}
use Rattle.rulelines.proofs.compared.read_sides.Goals as goal

pub read_second-requires : goal.read_second-requires
read_second-requires c = past_operand c.in_ok-first.ensures.operand c.requires

pub returns-clause-pooled : goal.returns-clause-pooled
unfolding sides sides_bytes bytes
returns-clause-pooled c =
    let a = laid_got operand_at operand_bytes (operand.parse c.args.s.now c.args.at) c.args.used c.in_ok-first.ensures.operand in
    let b = laid_got operand_at operand_bytes ((second_if c.args.uses).parse c.args.s.now c.in_ok-first.first.next) c.in_ok-first.first.used
    c.in_ok-second.ensures.operand in
    rw (a.1, b.1, placed_got _ c.in_ok-fill.ensures)
    (stored_both c.args.pool.now c.args.used (operand_bytes a.0) (operand_bytes b.0) a.3
    (rw a.1 at c.read_operand.ensures.pooled) (rw b.1 at c.read_second.ensures.pooled))
