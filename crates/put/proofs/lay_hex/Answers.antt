-- `put::lay_hex` meets its contract: there is no room and all is cleared, or the digits are stored, the last one first. The loop's
-- invariant: with the digits that are left, the text holds all of them. Assumes nothing.
use Prim.Native.Nat.{◌+◌}
use native.Mathlib.Omega.{arith}
use mathlib.Core.Path.{sym, ◌∙◌}
use lib.ListN.{length}
use borrow.Author.Tests.{leb-true, leb-false}
use Rattle.grammar.proofs.Hexadecimals.{length_digits}
use Rattle.put.proofs.Laws.{laid_fits, laid_over}
use Rattle.put.proofs.Storing.{digits_begun, digits_more, digits_done}
use Rattle.put.proofs.lay_hex.Goals as goal

pub returns-then-not-has_room : goal.returns-then-not-has_room
returns-then-not-has_room c =
    let passed = c.pass_over.ensures in
    let over = leb-false (c.args.at + c.args.k) (length c.args.text.now) (sym c.has_room.ensures ∙ c.if-not-has_room.true) in
    let long = length_digits c.args.k c.args.n in
    laid_over (omega arith) passed.bytes (rw long passed.next)

pub loop-i-init : goal.loop-i-init
loop-i-init c = digits_begun (leb-true _ _ (sym c.has_room.ensures ∙ c.if-not-has_room.false))

pub loop-i-preserved : goal.loop-i-preserved
loop-i-preserved c = digits_more c.hex_digit.result c.loop-i.invariant c.loop-i-test.true c.hex_digit.ensures

pub returns : goal.returns
returns c =
    let stored = c.loop-i.invariant in
    let long = length_digits c.args.k c.args.n in
    laid_fits (omega arith) (let room = stored.room in omega (arith, long)) (digits_done stored (omega arith)) (omega (arith, long))
