-- `put::lay_bytes` meets its contract: there is no room and all is cleared, or the piece is stored byte by byte. The loop's invariant: with
-- the bytes that are left, the text holds the piece. Assumes nothing.
use native.Mathlib.Omega.{arith}
use mathlib.Core.Path.{sym, ◌∙◌}
use borrow.Author.Tests.{leb-true, leb-false}
use Rattle.put.proofs.Laws.{laid_fits, laid_over}
use Rattle.put.proofs.Storing.{storing_begun, storing_more, storing_done}
use Rattle.put.proofs.lay_bytes.Goals as goal

pub returns-then-not-has_room : goal.returns-then-not-has_room
returns-then-not-has_room c =
    let passed = c.pass_over.ensures in
    laid_over (leb-false _ _ (sym c.has_room.ensures ∙ c.if-not-has_room.true)) passed.bytes passed.next

pub loop-i-init : goal.loop-i-init
loop-i-init c = storing_begun (leb-true _ _ (sym c.has_room.ensures ∙ c.if-not-has_room.false))

pub loop-i-preserved : goal.loop-i-preserved
loop-i-preserved c = storing_more c.loop-i.invariant c.loop-i-test.true

pub returns : goal.returns
returns c =
    let stored = c.loop-i.invariant in
    laid_fits (omega arith) stored.room (storing_done stored c.loop-i-test.false) (omega arith)
