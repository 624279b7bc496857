-- `call::columns::keep_column` meets its contract. Nothing is asked where it calls. Assumes nothing.
use Rattle.call.proofs.columns.keep_column.Goals as goal

pub returns-then-keep : goal.returns-then-keep
returns-then-keep c = rw c.if-keep.true

pub returns : goal.returns
returns c = rw c.if-keep.false (c.fill.ensures.after (λ y h. h))
