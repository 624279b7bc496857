use native.Mathlib.Omega.{arith}
use Rattle.fields.proofs.Laws.{error_left}
use Rattle.celllines.proofs.Sections.{rest_begun, rest_next, rest_stopped, rest_done}
use Rattle.celllines.proofs.read_lines.Goals as goal

pub loop-i-init : goal.loop-i-init
loop-i-init c = rest_begun _ _ _ _ _ _ c.requires

pub read_cell-requires : goal.read_cell-requires
read_cell-requires c = c.loop-i.invariant.room

pub returns-in_err-cell : goal.returns-in_err-cell
returns-in_err-cell c =
    rest_stopped c.loop-i.invariant c.from_residual.result _ _ (omega arith) c.in_err-cell.ensures.cell
    (error_left c.from_residual.result c.from_residual.ensures.1)

pub loop-i-preserved : goal.loop-i-preserved
loop-i-preserved c =
    rest_next c.loop-i.invariant _ _ (omega arith) c.in_ok-cell.ensures.cell c.read_cell.ensures.cell_stored c.read_cell.auto.pool
    c.store_cell.ensures

pub returns : goal.returns
returns c = rest_done c.loop-i.invariant (omega arith)
