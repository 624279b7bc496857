-- `ratio::shape_of` meets its contract: flat is asked first, and of ends that are not flat whether their difference is finite. Assumes
-- nothing.
use mathlib.Core.Path.{sym, ◌∙◌}
use Rattle.model.proofs.RatioParts.{shape_is}
use Rattle.ratio.proofs.shape_of.Goals as goal

pub returns-then-maximum-minimum : goal.returns-then-maximum-minimum
returns-then-maximum-minimum c value = sym (shape_is value _ _ ∙ rw c.if-maximum-minimum.true)

pub returns-then-is_finite : goal.returns-then-is_finite
returns-then-is_finite c value =
    let finite-span = sym c.is_finite.ensures ∙ c.if-is_finite.true in
    sym (shape_is value _ _ ∙ rw (c.if-maximum-minimum.false, finite-span))

pub returns : goal.returns
returns c value =
    let no_span = sym c.is_finite.ensures ∙ c.if-is_finite.false in
    sym (shape_is value _ _ ∙ rw (c.if-maximum-minimum.false, no_span))
