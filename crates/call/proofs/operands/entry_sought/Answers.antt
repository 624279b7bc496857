-- `call::operands::entry_sought` meets its contract: no cell has so great a row or column, the cell before the next one stands there, or it
-- is sought. Assumes nothing.
use Prim.Native.Nat.{◌-◌, ◌<◌}
use mathlib.Core.Path.{sym, ◌∙◌}
use native.Mathlib.Omega.{arith}
use Rattle.call.proofs.Seeking.{stands, entry_found}
use Rattle.call.proofs.Aiming.{entry_row_past, entry_col_past}
use Rattle.call.proofs.operands.entry_sought.Goals as goal
use Rattle.call.proofs.operands.entry_sought.Goals.{Then-stands_at}

pub returns-then-row-gt4294967295 : goal.returns-then-row-gt4294967295
returns-then-row-gt4294967295 c =
    sym (entry_row_past _ _ _ _ (λ k. omega (arith, c.type_inv.rows k, c.if-row-gt4294967295.true)))

pub returns-then-col-gt65535 : goal.returns-then-col-gt65535
returns-then-col-gt65535 c =
    sym (entry_col_past _ _ _ _ (λ k. omega (arith, c.type_inv.cols k, c.if-col-gt65535.true)))

few_before : (c : Then-stands_at) → c.args.next - 1 < 1024
few_before c =
    let start = c in
    let told = stands start.args.rows.now start.args.cols.now (record { row = start.args.row; col = start.args.col })
    (start.args.next - 1) in
    omega (arith, (told.0 (sym c.stands_at.ensures ∙ c.if-stands_at.true)).0, start.requires.1)

pub overflow_cast-result : goal.overflow_cast-result
overflow_cast-result c = omega (arith, few_before c)

pub overflow_add-result : goal.overflow_add-result
overflow_add-result c = omega (arith, few_before c)

pub returns-then-stands_at : goal.returns-then-stands_at
returns-then-stands_at c =
    omega (
      arith,
      entry_found c.args.rows.now c.args.cols.now (record { row = c.args.row; col = c.args.col })
          c.requires.0 (c.args.next - 1) (sym c.stands_at.ensures ∙ c.if-stands_at.true),
    )
