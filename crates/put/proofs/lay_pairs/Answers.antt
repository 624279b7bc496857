-- `put::lay_pairs` meets its contract: there is no room and all is cleared, or the digits are stored, two a turn. The loop's invariant: with
-- the pairs that are left, the text holds all of them. Assumes nothing.
use Prim.Native.Nat.{◌+◌, ◌*◌}
use native.Mathlib.Omega.{arith}
use mathlib.Core.Path.{sym, ◌∙◌}
use lib.ListN.{length}
use borrow.Author.Tests.{leb-false}
use Rattle.put.proofs.Laws.{laid_fits, laid_over}
use Rattle.grammar.proofs.Pairs.{length_pairs}
use Rattle.put.proofs.Storing.{pairs_more, pairs_done}
use Rattle.put.proofs.lay_pairs.Goals as goal

pub returns-then-not-has_room : goal.returns-then-not-has_room
returns-then-not-has_room c =
    let passed = c.pass_over.ensures in
    let over = leb-false (c.args.at + length c.args.piece.now * 2) (length c.args.text.now) (sym c.has_room.ensures ∙ c.if-not-has_room.true) in
    let long = length_pairs c.args.piece.now in
    laid_over (omega arith) passed.bytes (rw long passed.next)

pub loop-b-preserved : goal.loop-b-preserved
loop-b-preserved c =
    pairs_more c.hex_digit.result c.hex_digit-in-loop-b.result c.loop-b.invariant c.loop-b-test.true
    c.hex_digit.ensures c.hex_digit-in-loop-b.ensures

pub returns : goal.returns
returns c =
    let stored = c.loop-b.invariant in
    let long = length_pairs c.args.piece.now in
    laid_fits (omega arith) (omega arith) (pairs_done stored c.loop-b-test.false) (omega arith)
