-- `color_scale3` meets its contract: it asks the bounds where the definition asks the values. Assumes nothing.
use mathlib.Core.Path.{sym, ◌∙◌}
use Rattle.plans.proofs.Cases.{scale3_bounds}
use Rattle.plans.proofs.color_scale3.Goals as goal

pub returns-in_default : goal.returns-in_default
returns-in_default c = λ xs b m. rw (scale3_bounds, sym b ∙ c.in_default.is)

pub returns : goal.returns
returns c = λ xs b m. rw (scale3_bounds, sym b ∙ c.in-Some.is, m)
