-- `call::operands::aimed` meets its contract: an absolute axis, one within the grid, one past it. Assumes nothing.
use Rattle.model.specs.References.{axis}
use Rattle.call.specs.Tables.{axis_number}
use Rattle.call.proofs.Aiming.{axis_within, axis_past}
use Rattle.call.proofs.operands.aimed.Goals as goal

pub returns-then-absolute : goal.returns-then-absolute
unfolding axis axis_number
returns-then-absolute c = rw c.if-absolute.true

pub returns-then-at-most : goal.returns-then-at-most
returns-then-at-most c = rw c.if-absolute.false (axis_within _ _ _ _ c.requires c.if-at-most.true)

pub returns : goal.returns
returns c = rw c.if-absolute.false (axis_past _ _ _ _ c.requires c.if-at-most.false)
