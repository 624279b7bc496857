-- `ranks::threshold` meets its contract: of finite values it follows the definition's two cases. Assumes nothing.
use Rattle.std.proofs.Common.{sym, ◌∙◌}
use Rattle.model.specs.Values.{threshold}
use Rattle.laws.proofs.Values.{sorted_length}
use Rattle.ranks.proofs.Finite.{told, untold}
use Rattle.ranks.proofs.threshold.Goals as goal

pub returns-then-not-all_finite : goal.returns-then-not-all_finite
returns-then-not-all_finite c = untold _ _ (sym c.all_finite.ensures ∙ c.if-not-all_finite.true)

pub kth_value-requires : goal.kth_value-requires
kth_value-requires c =
    sym c.all_finite.ensures ∙ c.if-not-all_finite.false

pub returns-then-bottom : goal.returns-then-bottom
unfolding threshold
returns-then-bottom c =
    told _ _ _ (sym c.all_finite.ensures ∙ c.if-not-all_finite.false)
    (c.kth_value.ensures ∙ rw (c.if-bottom.true, c.saturating_sub.ensures))

pub kth_value-requires-2 : goal.kth_value-requires-2
kth_value-requires-2 c =
    sym c.all_finite.ensures ∙ c.if-not-all_finite.false

pub returns : goal.returns
unfolding threshold
returns c =
    told _ _ _ (sym c.all_finite.ensures ∙ c.if-not-all_finite.false)
    (c.kth_value-2.ensures ∙ rw (c.if-bottom.false, c.saturating_sub-2.ensures, sorted_length))
