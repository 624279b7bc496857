-- `call::operands::entry_at` meets its contract: a cell that stands at the coordinate is the one that the entry names, and where the first
-- that does not come before it does not stand there, none does. Assumes nothing.
use Prim.Native.Nat.{◌<◌}
use mathlib.Core.Path.{sym, ◌∙◌}
use native.Mathlib.Omega.{arith}
use Rattle.call.proofs.Seeking.{stands, entry_found, entry_none}
use Rattle.call.proofs.operands.entry_at.Goals as goal
use Rattle.call.proofs.operands.entry_at.Goals.{Then-stands_at}

few_guesses : (c : Then-stands_at) → c.args.guess < 1024
few_guesses c =
    let start = c in
    let told = stands start.args.rows.now start.args.cols.now start.args.at start.args.guess in
    omega (arith, (told.0 (sym c.stands_at.ensures ∙ c.if-stands_at.true)).0, start.requires.1)

pub overflow_cast-result : goal.overflow_cast-result
overflow_cast-result c = omega (arith, few_guesses c)

pub overflow_add-result : goal.overflow_add-result
overflow_add-result c = omega (arith, few_guesses c)

pub returns-then-stands_at : goal.returns-then-stands_at
returns-then-stands_at c =
    omega (
      arith,
      entry_found c.args.rows.now c.args.cols.now c.args.at c.requires.0 c.args.guess
          (sym c.stands_at.ensures ∙ c.if-stands_at.true),
    )

pub returns-then-stands_at-2 : goal.returns-then-stands_at-2
returns-then-stands_at-2 c =
    omega (
      arith,
      entry_found c.args.rows.now c.args.cols.now c.args.at c.requires.0
          c.first_not_before-i.result (sym c.stands_at-2.ensures ∙ c.if-stands_at-2.true),
    )

pub returns : goal.returns
returns c =
    sym
    (entry_none _ _ _ c.requires.0
    (record { ordered = omega arith; within = c.first_not_before-i.ensures.within; before = c.first_not_before-i.ensures.before; after = c.first_not_before-i.ensures.after })
    (sym c.stands_at-2.ensures ∙ c.if-stands_at-2.false))
