-- `reader::read_start` meets its contract, case by case. Assumes nothing.
use borrow.Author.Tests.{lt-ltb, le-ltb}
use Rattle.reader.proofs.Starts.{too_long, no_head, too_many_lem, head_read}
use Rattle.reader.proofs.read_start.Goals as goal

pub returns-then-s-gt65536 : goal.returns-then-s-gt65536
returns-then-s-gt65536 c =
    let told = too_long c.args.s.now c.args.pool.now c.args.pool.now (lt-ltb _ _ c.if-s-gt65536.true) in
    record { value = told.0; named = told.1 }

pub returns-then-is_over : goal.returns-then-is_over
returns-then-is_over c =
    let told = too_many_lem c.args.s.now c.args.pool.now (le-ltb _ _ c.if-s-gt65536.false) c.read_head.ensures.pool_after
    c.in-Ok.ensures.value c.is_over.ensures c.if-is_over.true in
    record { value = told.0; named = told.1 }

pub returns-else-is_over : goal.returns-else-is_over
returns-else-is_over c =
    let told = head_read c.args.s.now c.args.pool.now (le-ltb _ _ c.if-s-gt65536.false) c.read_head.ensures.pool_after
    c.in-Ok.ensures.value c.is_over.ensures c.if-is_over.false in
    record { value = told.0; named = told.1 }

pub returns-in-Err : goal.returns-in-Err
returns-in-Err c =
    let told = no_head c.args.s.now c.args.pool.now (le-ltb _ _ c.if-s-gt65536.false) c.read_head.ensures.pool_after
    c.in-Err.ensures.value c.malformed.ensures in
    record { value = told.0; named = told.1 }
