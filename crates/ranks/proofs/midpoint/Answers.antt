-- `ranks::midpoint` meets its contract: of finite values it follows the definition's two cases. Assumes nothing.
use Rattle.std.proofs.Common.{sym, ◌∙◌, eq-eqb, ne_eqb}
use lib.Ieee.{of_bits}
use Rattle.model.specs.Values.{half, midpoint}
use Rattle.laws.proofs.Values.{sorted_length}
use Rattle.ranks.proofs.Finite.{told, untold}
use Rattle.ranks.proofs.midpoint.Goals as goal

pub returns-then-not-all_finite : goal.returns-then-not-all_finite
returns-then-not-all_finite c = untold _ _ (sym c.all_finite.ensures ∙ c.if-not-all_finite.true)

pub kth_value-high-requires : goal.kth_value-high-requires
kth_value-high-requires c = sym c.all_finite.ensures ∙ c.if-not-all_finite.false

pub prior_value-low-requires : goal.prior_value-low-requires
prior_value-low-requires c =
    sym c.all_finite.ensures ∙ c.if-not-all_finite.false

pub returns-then-values-eq0 : goal.returns-then-values-eq0
unfolding midpoint half of_bits
returns-then-values-eq0 c =
    told _ _ _ (sym c.all_finite.ensures ∙ c.if-not-all_finite.false)
    (rw (
      sorted_length,
      eq-eqb _ _ c.if-values-eq0.true,
      c.prior_value-low.ensures,
      c.kth_value-high.ensures,
      c.saturating_sub.ensures,
    ))

pub returns : goal.returns
unfolding midpoint
returns c =
    told _ _ _ (sym c.all_finite.ensures ∙ c.if-not-all_finite.false)
    (rw (sorted_length, ne_eqb _ _ c.if-values-eq0.false, c.kth_value-high.ensures))
