-- `call::operands::stands_at` meets its contract. Assumes nothing.
use native.Mathlib.Omega.{arith}
use borrow.Author.Tests.{lt-ltb, le-ltb}
use Rattle.model.specs.Sheet.{same_coordinate}
use Rattle.call.proofs.operands.stands_at.Goals as goal

pub returns-then-i-rows : goal.returns-then-i-rows
returns-then-i-rows c = rw (le-ltb _ _ c.if-i-rows.true)

pub overflow_cast-same_row : goal.overflow_cast-same_row
overflow_cast-same_row c = omega (arith, c.type_inv.rows c.args.i)

pub overflow_cast-same_col : goal.overflow_cast-same_col
overflow_cast-same_col c = omega (arith, c.type_inv.cols c.args.i)

pub returns : goal.returns
unfolding same_coordinate
returns c = rw (lt-ltb _ _ c.if-i-rows.false)
