-- `above_average` meets its contract: there are values, and the average tells whether their sum is finite. Assumes nothing.
use Rattle.std.proofs.Common.{sym, ◌∙◌, eqb-true}
use Rattle.std.proofs.lemmas.Bool.{eqb-false}
use Rattle.model.specs.Rule.{against}
use Rattle.plans.proofs.Cases.{mean_none, mean_some}
use Rattle.plans.proofs.above_average.Goals as goal

pub returns-then-is_empty : goal.returns-then-is_empty
returns-then-is_empty c = sym (mean_none _ _ _ (eqb-true _ _ (sym c.is_empty.ensures ∙ c.if-is_empty.true)))

pub returns-in_default : goal.returns-in_default
unfolding against
returns-in_default c =
    rw (mean_some _ _ _ (eqb-false _ _ (sym c.is_empty.ensures ∙ c.if-is_empty.false)), sym c.average.ensures ∙ c.in_default.is)

pub returns : goal.returns
unfolding against
returns c =
    rw (mean_some _ _ _ (eqb-false _ _ (sym c.is_empty.ensures ∙ c.if-is_empty.false)), sym c.average.ensures ∙ c.in-Some.is)
