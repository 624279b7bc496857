-- `call::operands::find_operands` meets its contract: literals, a cell-is test with one operand or two, an expression, any other test.
-- Assumes nothing.
use mathlib.Core.Path.{sym, ◌∙◌}
use mathlib.Core.Bool.{true≢false}
use Rattle.hits.specs.Verdict.{first_operand, second_operand}
use Rattle.turns.specs.Knowing.{takes_second}
use Rattle.call.proofs.Meaning.{first_literal, second_literal, takes_none}
use borrow.Enum.Refused.{opened}
use Rattle.call.proofs.operands.find_operands.Goals as goal

pub returns-then-by_literals : goal.returns-then-by_literals
returns-then-by_literals c =
    let by = sym c.by_literals.ensures ∙ c.if-by_literals.true in record {
      first = λ kinds wraps nums ats lens others founds numbered valued takes i h m. rw by (first_literal _ _ _ _ by);
      second = λ kinds wraps nums ats lens others founds numbered valued takes i h m. rw by (second_literal _ _ _ _ by takes);
    }

pub find_operand-requires-then-uses_second : goal.find_operand-requires-then-uses_second
find_operand-requires-then-uses_second c =
    record {
      cols_value = c.requires.cols_value;
      band_of = (c.requires.band_of.0, c.requires.band_of.1, c.requires.band_of.2, c.requires.band_of.4);
    }

pub find_operand-requires-in-Expression-2 : goal.find_operand-requires-in-Expression-2
find_operand-requires-in-Expression-2 c =
    record {
      cols_value = c.requires.cols_value;
      band_of = (c.requires.band_of.0, c.requires.band_of.1, c.requires.band_of.2, c.requires.band_of.4);
    }

pub returns-then-uses_second : goal.returns-then-uses_second
unfolding first_operand second_operand
returns-then-uses_second c =
    let by = sym c.by_literals.ensures ∙ c.if-by_literals.false in record {
      first = λ kinds wraps nums ats lens others founds numbered valued takes i h m.
          rw (by, c.in-CellIs.is) (c.find_operand.ensures kinds wraps nums ats lens numbered valued i h m);
      second = λ kinds wraps nums ats lens others founds numbered valued takes i h m.
          rw (by, c.in-CellIs.is) (c.find_operand-then-uses_second.ensures kinds wraps nums ats lens numbered valued i h m);
    }

pub returns-else-uses_second : goal.returns-else-uses_second
unfolding first_operand takes_second
returns-else-uses_second c =
    let by = sym c.by_literals.ensures ∙ c.if-by_literals.false in record {
      first = λ kinds wraps nums ats lens others founds numbered valued takes i h m.
          rw (by, c.in-CellIs.is) (c.find_operand.ensures kinds wraps nums ats lens numbered valued i h m);
      second = λ kinds wraps nums ats lens others founds numbered valued takes i h m.
          absurd (true≢false (sym (rw c.in-CellIs.is at takes) ∙ sym c.uses_second.ensures ∙ c.if-uses_second.false));
    }

pub returns-in-Expression : goal.returns-in-Expression
unfolding first_operand second_operand
returns-in-Expression c =
    let by = sym c.by_literals.ensures ∙ c.if-by_literals.false in record {
      first = λ kinds wraps nums ats lens others founds numbered valued takes i h m.
          rw (by, c.in-Expression.is) (c.find_operand-in-Expression.ensures kinds wraps nums ats lens numbered valued i h m);
      second = λ kinds wraps nums ats lens others founds numbered valued takes i h m.
          rw (by, c.in-Expression.is) (c.find_operand-in-Expression-2.ensures kinds wraps nums ats lens numbered valued i h m);
    }

pub returns-in_default : goal.returns-in_default
returns-in_default c =
    let none = takes_none _ (opened c.in_default.in_default-own.keys3) in record {
      first = λ kinds wraps nums ats lens others founds numbered valued takes. absurd (true≢false (sym takes ∙ none.0));
      second = λ kinds wraps nums ats lens others founds numbered valued takes. absurd (true≢false (sym takes ∙ none.1));
    }
