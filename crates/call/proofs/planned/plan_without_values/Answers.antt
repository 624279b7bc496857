-- `call::planned::plan_without_values` meets its contract: a duplicate rule, or one by operands. Assumes nothing.
use mathlib.Core.Path.{sym, ◌∙◌}
use mathlib.Core.Bool.{true≢false}
use Rattle.order.specs.Order.{is_duplicates}
use Rattle.order.proofs.Keyed.{not_duplicates}
use Rattle.turns.proofs.Planning.{plan_of_operands_is}
use Rattle.call.proofs.Parting.{duplicates_ask}
use borrow.Enum.Refused.{opened}
use Rattle.call.proofs.planned.plan_without_values.Goals as goal

pub returns-in-DuplicateValues : goal.returns-in-DuplicateValues
unfolding is_duplicates
returns-in-DuplicateValues c =
    record {
      plan = λ kinds wraps nums ats lens pool regions name up banded counted coded.
          rw c.in-DuplicateValues.is
          (c.plan_of_duplicates.ensures.plan kinds wraps nums ats lens pool regions name up banded (counted (duplicates_ask _ (rw c.in-DuplicateValues.is))) (coded (rw c.in-DuplicateValues.is)));
      founds = λ kinds wraps nums ats lens pool test up banded band counts counted coded.
          c.plan_of_duplicates.ensures.founds kinds wraps nums ats lens pool test up banded band (counted (duplicates_ask _ counts)) coded;
    }

pub returns-in_default : goal.returns-in_default
returns-in_default c =
    let other = (opened c.in_default.in_default-own.keys2) in record {
      plan = λ kinds wraps nums ats lens pool regions name up banded counted coded.
          c.plan_of_operands.ensures ∙ sym (plan_of_operands_is _ _ _ other c.requires.by_index.1);
      founds = λ kinds wraps nums ats lens pool test up banded band counts counted coded followed tested.
          absurd (true≢false (sym counts ∙ not_duplicates _ other));
    }
