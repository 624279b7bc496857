-- `say_cell_is` meets its contract: literals, two operands of its own for each region, and one. Assumes nothing.
use mathlib.Core.Path.{sym, ◌∙◌}
use lib.Ieee.{nan}
use lib.ListN.{get_or}
use Rattle.hits.specs.Verdict.{first_operand, second_operand, verdict_on}
use Rattle.hits.specs.Hits.{verdict_by}
use Rattle.hits.proofs.Verdicts.{literals_said, between_said, compared_said}
use Rattle.hits.proofs.said.say_cell_is.Goals as goal

pub returns-then-literals : goal.returns-then-literals
unfolding verdict_by verdict_on first_operand second_operand
returns-then-literals c fill imported founds i h =
    let a = c.args in
    let wanted = c.interval_of-wanted in
    let literal = sym (c.literals.ensures fill) ∙ c.if-literals.true in
    rw literal
    (c.say_interval.ensures i h
    ∙ literals_said a.op fill imported (get_or a.values.now i nan) wanted.result a.first a.second _ _ literal
    c.literal_float.ensures c.literal_float-then-literals.ensures wanted.ensures)

pub returns-then-uses_second : goal.returns-then-uses_second
unfolding verdict_by verdict_on first_operand second_operand
returns-then-uses_second c fill imported founds i h =
    let a = c.args in
    let two = sym c.uses_second.ensures ∙ c.if-uses_second.true in
    rw (sym (c.literals.ensures fill) ∙ c.if-literals.false)
    (rw (c.say_between.ensures i h, c.is_between.ensures)
    (between_said a.op fill imported (get_or a.values.now i nan) two _ _))

pub returns : goal.returns
unfolding verdict_by verdict_on first_operand second_operand
returns c fill imported founds i h =
    let a = c.args in
    let one = sym c.uses_second.ensures ∙ c.if-uses_second.false in
    rw (sym (c.literals.ensures fill) ∙ c.if-literals.false)
    (rw (c.say_compared.ensures i h)
    (compared_said a.op fill imported (get_or a.values.now i nan) _ one c.wanted_of.ensures _ _))
