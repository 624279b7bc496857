-- `marks::read_text`: what one more read gives stands behind what was there. Assumes nothing.
use Rattle.std.proofs.Common.{rules}
use Rattle.streams.proofs.Reading.{read_on}
use Rattle.marks.proofs.read_text.Goals as goal

pub loop-done-preserved : goal.loop-done-preserved
loop-done-preserved g c =
    (search rules, search rules, read_on _ _ _ _ _ _ _ c.loop-done.invariant.0 c.in_ok-more.ensures.bound.0 c.loop-done.invariant.2 c.in_ok-more.ensures.bytes.0)
