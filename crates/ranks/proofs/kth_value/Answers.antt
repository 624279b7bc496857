-- `ranks::kth_value` meets its contract: past the end it gives 0 / 0, which is not-a-number. Assumes nothing.
use lib.Ieee.{of_bits, div}
use Rattle.ranks.proofs.Exact.{past_end}
use Rattle.ranks.proofs.kth_value.Goals as goal

pub returns-then-values-k : goal.returns-then-values-k
unfolding of_bits div
returns-then-values-k c = past_end _ _ c.if-values-k.true
