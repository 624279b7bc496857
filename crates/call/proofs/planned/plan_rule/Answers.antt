-- `call::planned::plan_rule` meets its contract: an inverted range, a kind that takes values, and one that does not. Assumes nothing.
use mathlib.Core.Path.{sym, ◌∙◌}
use mathlib.Core.Bool.{true≢false}
use Rattle.model.specs.Rule.{values}
use Rattle.plans.proofs.Laws.{plan_inverted, plan_upright, plan_of_values_lem}
use Rattle.call.proofs.Parting.{values_no_duplicates, values_ask, untested}
use Rattle.call.proofs.planned.plan_rule.Goals as goal

pub returns-then-not-upright : goal.returns-then-not-upright
returns-then-not-upright c =
    record {
      plan = λ kinds wraps nums ats lens pool regions name banded counted numbered coded.
          sym (plan_inverted _ _ (sym c.upright.ensures ∙ c.if-not-upright.true));
      founds = λ kinds wraps nums ats lens pool test banded band counts counted coded followed tested. absurd (untested test tested);
    }

pub returns-then-takes_values : goal.returns-then-takes_values
unfolding values
returns-then-takes_values c =
    let takes = sym c.takes_values.ensures ∙ c.if-takes_values.true in record {
      plan = λ kinds wraps nums ats lens pool regions name banded counted numbered coded.
          c.plan_by_values.ensures kinds wraps nums ats lens banded.band (counted (values_ask _ takes)) numbered
          ∙ sym (plan_of_values_lem _ _ takes (sym c.upright.ensures ∙ c.if-not-upright.false));
      founds = λ kinds wraps nums ats lens pool test banded band counts counted coded followed tested.
          absurd (true≢false (sym counts ∙ values_no_duplicates _ takes));
    }

pub plan_without_values-requires : goal.plan_without_values-requires
plan_without_values-requires c =
    record {
      cols_value = c.requires.cols_value;
      region_cols_value = c.requires.region_cols_value;
      by_index = (c.requires.by_index.0, sym c.takes_values.ensures ∙ c.if-takes_values.false);
    }

pub returns : goal.returns
returns c =
    let is = sym c.upright.ensures ∙ c.if-not-upright.false in record {
      plan = λ kinds wraps nums ats lens pool regions name banded counted numbered coded.
          c.plan_without_values.ensures.plan kinds wraps nums ats lens pool regions name is banded counted coded ∙ sym (plan_upright _ _ is);
      founds = λ kinds wraps nums ats lens pool test.
          c.plan_without_values.ensures.founds kinds wraps nums ats lens pool test is;
    }
