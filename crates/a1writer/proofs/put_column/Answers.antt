-- `a1writer::put_column` meets its contract: one letter, two or three. Assumes nothing.
use native.Mathlib.Omega.{arith}
use Rattle.a1text.proofs.Columns.{one_letter}
use Rattle.put.proofs.Laws.{puts_then, puts_as}
use Rattle.a1writer.proofs.Texts.{column_two, column_three}
use Rattle.a1writer.proofs.put_column.Goals as goal

pub returns-then-col-lt26 : goal.returns-then-col-lt26
returns-then-col-lt26 c =
    puts_as c.put_byte.ensures (one_letter _ c.if-col-lt26.true)

pub returns-then-ahead-lt26 : goal.returns-then-ahead-lt26
returns-then-ahead-lt26 c =
    puts_as (puts_then (omega arith) c.put_byte-then-ahead-lt26.ensures c.put_byte-then-ahead-lt26-2.ensures)
    (column_two _ c.if-col-lt26.false c.if-ahead-lt26.true)

pub returns : goal.returns
returns c =
    puts_as
    (puts_then (omega arith) (puts_then (omega arith) c.put_byte-2.ensures c.put_byte-3.ensures) c.put_byte-4.ensures)
    (column_three _ c.if-col-lt26.false c.if-ahead-lt26.false)
