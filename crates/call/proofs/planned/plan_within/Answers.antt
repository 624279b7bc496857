-- `call::planned::plan_within` meets its contract: a charge was refused, or they were accepted. Assumes nothing.
use mathlib.Core.Path.{sym, ◌∙◌}
use Rattle.call.proofs.Parting.{untested, accepted, refused}
use Rattle.call.proofs.planned.plan_within.Goals as goal

pub returns-then-is_err : goal.returns-then-is_err
returns-then-is_err c = record {
  plan = λ kinds wraps nums ats lens pool regions name counter h.
      absurd (refused _ (sym c.is_err.ensures.value ∙ c.if-is_err.true) counter h);
  founds = λ kinds wraps nums ats lens pool test banded band counts counted coded followed tested. absurd (untested test tested);
  refused = λ test tested. absurd (untested test tested);
}

pub returns : goal.returns
returns c = record {
  plan = λ kinds wraps nums ats lens pool regions name counter h. c.plan_rule.ensures.plan kinds wraps nums ats lens pool regions name;
  founds = c.plan_rule.ensures.founds;
  refused = λ test tested. accepted _ (sym c.is_err.ensures.value ∙ c.if-is_err.false);
}
