-- `ranks::prior_value` meets its contract: a guess that stands at k is equal to the value at k as a number. Assumes nothing.
use Rattle.std.proofs.Common.{sym, ◌∙◌}
use lib.Ieee.{of_bits, div}
use Rattle.ranks.proofs.Counting.{kth_stands}
use Rattle.ranks.proofs.Finite.{all_finite_lem}
use Rattle.ranks.proofs.Exact.{past_end}
use Rattle.ranks.proofs.prior_value.Goals as goal

pub returns-then-values-k : goal.returns-then-values-k
unfolding of_bits div
returns-then-values-k c = past_end _ _ c.if-values-k.true

pub signed-requires : goal.signed-requires
signed-requires c =
    let p = c.requires in
    let h = c.if-values-k.false in record {
      values_value = p;
      k_in_bounds = h;
      t_value = kth_stands _ _ (all_finite_lem _ p) h _ (sym c.stands_at.ensures ∙ c.if-stands_at.true);
    }

pub signed-requires-then-stands_at-2 : goal.signed-requires-then-stands_at-2
signed-requires-then-stands_at-2 c =
    let p = c.requires in
    let h = c.if-values-k.false in record {
      values_value = p;
      k_in_bounds = h;
      t_value = kth_stands _ _ (all_finite_lem _ p) h _ (sym c.stands_at-2.ensures ∙ c.if-stands_at-2.true);
    }
