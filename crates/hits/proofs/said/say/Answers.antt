-- `say` meets its contract: where the test is known, its own function answers; else the cell's number decides. Assumes nothing.
use native.Mathlib.Omega.{arith}
use mathlib.Core.Path.{◌∙◌}
use lib.Ieee.{nan}
use lib.ListN.{get_or}
use Rattle.hits.specs.Verdict.{verdict_on}
use Rattle.hits.specs.Hits.{by_literals, verdict_by}
use Rattle.hits.proofs.Arms.{verdict_on_by_number}
use Rattle.hits.proofs.Verdicts.{on_number, interval_nan, counted_said, expression_said}
use borrow.Enum.Refused.{opened}
use Rattle.hits.proofs.said.say.Goals as goal

pub returns-in-CellIs : goal.returns-in-CellIs
returns-in-CellIs c imported i h =
    let a = c.args in
    rw c.in-CellIs.is (c.say_cell_is.ensures _ imported a.founds.now i h)

pub returns-in-DuplicateValues : goal.returns-in-DuplicateValues
unfolding verdict_by verdict_on
returns-in-DuplicateValues c imported i h =
    rw c.in-DuplicateValues.is
    (c.say_counted.ensures i (omega (arith, c.requires.2, h)) ∙ counted_said _ _ imported _)

pub returns-in-Expression : goal.returns-in-Expression
unfolding verdict_by verdict_on by_literals
returns-in-Expression c imported i h =
    rw c.in-Expression.is
    (rw (c.say_compared.ensures i (omega (arith, c.requires.0, h)))
    (expression_said _ _ c.wanted_for.ensures _ imported _ _))

pub returns-in_default : goal.returns-in_default
unfolding verdict_by
returns-in_default c imported i h =
    let a = c.args in
    let x = get_or a.values.now i nan in
    rw (verdict_on_by_number a.test (opened c.in_default.in_default-own.keys4))
    (c.say_interval.ensures i h
    ∙ on_number x _ _ (c.interval_by_number.ensures x imported) (λ e. rw e (interval_nan _)))
