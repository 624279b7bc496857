-- `interval_of_average` meets its contract: below it, and above it. Assumes nothing.
use lib.Ieee.{neg, of_bits, div}
use Rattle.hits.proofs.Comparisons.{meets_above, meets_below}
use Rattle.hits.proofs.intervals.interval_of_average.Goals as goal

pub returns-then-below : goal.returns-then-below
unfolding of_bits div neg
returns-then-below c x p = rw c.if-below.true (meets_below x c.args.average)

pub returns : goal.returns
unfolding of_bits div neg
returns c x p = rw c.if-below.false (meets_above x c.args.average)
