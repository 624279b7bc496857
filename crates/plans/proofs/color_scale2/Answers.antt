-- `color_scale2` meets its contract: it asks the bounds where the definition asks the values. Assumes nothing.
use mathlib.Core.Path.{sym, ◌∙◌}
use Rattle.plans.proofs.Cases.{scale2_bounds}
use Rattle.plans.proofs.color_scale2.Goals as goal

pub returns-in_default : goal.returns-in_default
returns-in_default c = rw (scale2_bounds, sym c.numeric_bounds.ensures ∙ c.in_default.is)

pub returns : goal.returns
returns c = rw (scale2_bounds, sym c.numeric_bounds.ensures ∙ c.in-Some.is)
