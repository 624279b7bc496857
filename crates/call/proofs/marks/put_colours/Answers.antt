-- `call::marks::put_colours` meets its contract: one colour for all marks, or that of a scale at the region's number. Assumes nothing.
use mathlib.Core.Path.{sym, ◌∙◌}
use lib.Ieee.{nan}
use lib.ListN.{get_or}
use Rattle.hits.specs.Painted.{colour_by}
use Rattle.turns.proofs.Planning.{no_bar_test}
use Rattle.call.proofs.Painting.{unbarred, unscaled, alike}
use borrow.Enum.Refused.{opened}
use Rattle.call.proofs.marks.put_colours.Goals as goal

pub returns-in-DataBar : goal.returns-in-DataBar
unfolding colour_by
returns-in-DataBar c =
    let a = c.args in
    c.put_same.ensures ∙ alike a.column.now a.n _ _
    (λ h. rw c.in-DataBar.is (sym c.packed.ensures)) a.hits.now

pub returns-then-imported : goal.returns-then-imported
returns-then-imported c =
    let a = c.args in
    let plain = unbarred a.test (no_bar_test _ (opened c.in_default.in_default-own.keys2)) in
    c.put_same-then-imported.ensures ∙ alike a.column.now a.n _ 0
    (λ h. rw c.if-imported.true (plain.colour (get_or a.values.now h nan))) a.hits.now

pub returns-in-ColorScale2 : goal.returns-in-ColorScale2
unfolding colour_by
returns-in-ColorScale2 c =
    rw (c.in-ColorScale2.is, c.if-imported.false) c.put_scale2.ensures

pub returns-in-ColorScale3 : goal.returns-in-ColorScale3
unfolding colour_by
returns-in-ColorScale3 c =
    rw (c.in-ColorScale3.is, c.if-imported.false) c.put_scale3.ensures

pub returns-in_default-test : goal.returns-in_default-test
returns-in_default-test c =
    let a = c.args in
    let plain = unscaled a.test (opened c.in_default-test.in_default-test-own.keys3) in
    c.put_same-in_default-test.ensures ∙ alike a.column.now a.n _ _
    (λ h. rw c.if-imported.false (plain (get_or a.values.now h nan) ∙ sym c.fill_by.ensures)) a.hits.now
