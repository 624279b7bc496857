-- `call::operands::means_target` meets its contract. Assumes nothing.
use borrow.Author.Tests.{eq-eqb, ne_eqb}
use Rattle.call.specs.Tables.{means_target}
use Rattle.call.proofs.operands.means_target.Goals as goal

pub returns-then-reference : goal.returns-then-reference
unfolding means_target
returns-then-reference c = rw c.if-reference.true

pub returns-then-reference-range : goal.returns-then-reference-range
unfolding means_target
returns-then-reference-range c = rw (c.if-reference.false, ne_eqb _ _ c.if-reference-range.true)

pub returns-then-reference-range-2 : goal.returns-then-reference-range-2
unfolding means_target
returns-then-reference-range-2 c =
    rw (c.if-reference.false, eq-eqb _ _ c.if-reference-range.false, ne_eqb _ _ c.if-reference-range-2.true)

pub returns : goal.returns
unfolding means_target
returns c =
    rw (c.if-reference.false, eq-eqb _ _ c.if-reference-range.false, eq-eqb _ _ c.if-reference-range-2.false) c.within_grid.ensures
