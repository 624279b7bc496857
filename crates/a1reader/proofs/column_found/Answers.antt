-- `a1reader::column_found` meets its contract, with letters and without. Assumes nothing.
use Rattle.a1reader.proofs.Columns.{column_zero, column_some}
use Rattle.a1reader.proofs.column_found.Goals as goal

pub returns-then-number-eq0 : goal.returns-then-number-eq0
returns-then-number-eq0 c = column_zero _ _ c.if-number-eq0.true

pub returns : goal.returns
returns c = column_some _ _ c.if-number-eq0.false c.requires
