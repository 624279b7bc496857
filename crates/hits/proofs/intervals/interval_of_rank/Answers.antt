-- `interval_of_rank` meets its contract: from the bottom, and from the top. Assumes nothing.
use lib.Ieee.{neg, of_bits, div}
use Rattle.hits.proofs.Comparisons.{meets_at_least, meets_at_most}
use Rattle.hits.proofs.intervals.interval_of_rank.Goals as goal

pub returns-then-bottom : goal.returns-then-bottom
unfolding of_bits div neg
returns-then-bottom c x p = rw c.if-bottom.true (meets_at_most x p c.args.threshold)

pub returns : goal.returns
unfolding of_bits div neg
returns c x p = rw c.if-bottom.false (meets_at_least x p c.args.threshold)
