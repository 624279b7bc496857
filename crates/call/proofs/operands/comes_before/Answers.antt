-- `call::operands::comes_before` meets its contract. Assumes nothing.
use native.Mathlib.Omega.{arith}
use borrow.Author.Tests.{lt-ltb, le-ltb, eq-eqb, ne_eqb}
use Rattle.model.specs.Job.{rises}
use Rattle.call.proofs.operands.comes_before.Goals as goal

pub returns-then-row-at : goal.returns-then-row-at
unfolding rises
returns-then-row-at c = rw (← c.at-row.ensures, lt-ltb _ _ c.if-row-at.true)

pub returns-then-row-at-2 : goal.returns-then-row-at-2
unfolding rises
returns-then-row-at-2 c =
    let at = c.args.at in
    rw (← c.at-row.ensures, le-ltb _ _ c.if-row-at.false, ne_eqb c.at-row.result at.row (omega arith))

pub returns : goal.returns
unfolding rises
returns c =
    let at = c.args.at in
    rw (
      ← c.at-row.ensures,
      ← c.at.ensures,
      le-ltb _ _ c.if-row-at.false,
      eq-eqb c.at-row.result at.row (omega arith),
    )
