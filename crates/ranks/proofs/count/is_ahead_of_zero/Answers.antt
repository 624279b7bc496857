-- `ranks::count::is_ahead_of_zero` meets its contract: its two cases are those of `before_zero`. Assumes nothing.
use lib.Ieee.{of_bits}
use Rattle.ranks.proofs.Zeros.{before_zero}
use Rattle.ranks.proofs.count.is_ahead_of_zero.Goals as goal
use Rattle.ranks.proofs.count.is_ahead_of_zero.Goals.{else-x, then-x}

pub returns : goal.returns
unfolding of_bits
returns c =
    let x = c.args.x in
    (elim c.if-x.branch [ then-x w ↦ rw (w.y-is, before_zero x, w.if-x.true) | else-x w ↦ rw (w.y-is, before_zero x, w.if-x.false) ])
