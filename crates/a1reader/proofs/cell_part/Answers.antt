-- `a1reader::cell_part` meets its contract: the parts of a cell in their order, and nothing behind them. Assumes nothing.
use mathlib.Core.Path.{ap, ◌∙◌}
use Rattle.std.specs.Result.{result_ok}
use borrow.Author.Rules.{rules}
use Rattle.a1reader.proofs.Cells.{row_high, Told, told_column, cell_no_letters, cell_no_row, cell_row_zero, cell_unended, cell_read}
use Rattle.a1reader.proofs.cell_part.Goals as goal
use Rattle.a1reader.proofs.cell_part.Goals.{After-mark_at-right, then-row-eq0-via-then-row-eq0, then-row-eq0-via-else-row-eq0+then-row-s}

pub returns-in_err-col : goal.returns-in_err-col
returns-in_err-col c = c.from_residual.ensures ∙ cell_no_letters _ _ c.mark_at-left.ensures c.in_err-col.ensures

told : (c : After-mark_at-right) → Told c.args.s.now c.args.at c.mark_at-left.result c.in_ok-col.col c.mark_at-right.result
told c = record { first = c.mark_at-left.ensures; column = c.in_ok-col.ensures; second = c.mark_at-right.ensures }

pub returns-in_err-row : goal.returns-in_err-row
returns-in_err-row c =
    c.from_residual-in_err-row.ensures ∙ cell_no_row (told (goal.at.returns-in_err-row c).After-mark_at-right) (c.in_err-row.ensures.value ∙ ap result_ok c.digits.ensures)

pub returns-then-row-eq0 : goal.returns-then-row-eq0
returns-then-row-eq0 c =
    let t = told (goal.at.returns-then-row-eq0 c).After-mark_at-right in
    elim c.then-row-eq0.branch [
      | then-row-eq0-via-then-row-eq0 w ↦ cell_row_zero t (c.in_ok-row.ensures.value ∙ ap result_ok c.digits.ensures) w.if-row-eq0.true
      | then-row-eq0-via-else-row-eq0+then-row-s w ↦ cell_unended t (c.in_ok-row.ensures.value ∙ ap result_ok c.digits.ensures) w.if-row-eq0.false w.if-row-s.true
    ]

pub overflow_cast-result : goal.overflow_cast-result
overflow_cast-result c = let h = row_high _ _ (c.in_ok-row.ensures.value ∙ ap result_ok c.digits.ensures) in search rules

pub overflow_sub-result-2 : goal.overflow_sub-result-2
overflow_sub-result-2 c = (told_column (told (goal.at.overflow_sub-result-2 c).After-mark_at-right)).low

pub overflow_cast-result-2 : goal.overflow_cast-result-2
overflow_cast-result-2 c = let h = (told_column (told (goal.at.overflow_cast-result-2 c).After-mark_at-right)).high in search rules

pub returns : goal.returns
returns c =
    cell_read (told (goal.at.returns c).After-mark_at-right) (c.in_ok-row.ensures.value ∙ ap result_ok c.digits.ensures) c.if-row-eq0.false c.if-row-s.false
