-- `call::shapes::put_shapes` meets its contract: one shape for all marks, or one for each half of a scale with three colours. Assumes nothing.
use native.Mathlib.Omega.{arith}
use mathlib.Core.Path.{sym, ◌∙◌}
use lib.Ieee.{nan}
use lib.ListN.{get_or}
use Rattle.hits.specs.Painted.{shape_by}
use Rattle.call.proofs.Painting.{unshaped, alike, alike_by, shape_of_half}
use borrow.Enum.Refused.{opened}
use Rattle.call.proofs.shapes.put_shapes.Goals as goal

pub overflow_add-upper : goal.overflow_add-upper
overflow_add-upper c = omega (arith, c.shape_between-upper.ensures.small)

pub returns-in-ColorScale2 : goal.returns-in-ColorScale2
unfolding shape_by
returns-in-ColorScale2 c =
    let a = c.args in
    c.put_same.ensures ∙ alike a.column.now a.n _ _
    (λ h. rw c.in-ColorScale2.is (sym (c.shape_between.ensures.shape (get_or a.values.now h nan)))) a.hits.now

pub returns-in-ColorScale3 : goal.returns-in-ColorScale3
returns-in-ColorScale3 c =
    let a = c.args in
    c.put_halves.ensures ∙ alike_by a.column.now a.n _ _
    (λ h. let x = get_or a.values.now h nan in
    rw c.in-ColorScale3.is (shape_of_half c.in-ColorScale3.min c.in-ColorScale3.mid c.in-ColorScale3.max c.in-ColorScale3.least c.in-ColorScale3.midpoint
    c.in-ColorScale3.greatest x _ _ (c.shape_between-lower.ensures.shape x) (c.shape_between-upper.ensures.shape x))) a.hits.now

pub returns-in-DataBar : goal.returns-in-DataBar
unfolding shape_by
returns-in-DataBar c =
    let a = c.args in
    c.put_same-in-DataBar.ensures ∙ alike a.column.now a.n _ _
    (λ h. rw c.in-DataBar.is (sym (c.shape_between-in-DataBar.ensures.shape (get_or a.values.now h nan)))) a.hits.now

pub returns-in_default : goal.returns-in_default
returns-in_default c =
    let a = c.args in
    c.put_same-in_default.ensures ∙ alike a.column.now a.n _ 0
    (λ h. unshaped a.test (opened c.in_default.in_default-own.keys4) (get_or a.values.now h nan)) a.hits.now
