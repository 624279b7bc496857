-- `data_bar` meets its contract: it asks the bounds where the definition asks the values. Assumes nothing.
use mathlib.Core.Path.{sym, ◌∙◌}
use Rattle.plans.proofs.Cases.{bar_bounds}
use Rattle.plans.proofs.data_bar.Goals as goal

pub returns-in_default : goal.returns-in_default
returns-in_default c = rw (bar_bounds, sym c.numeric_bounds.ensures ∙ c.in_default.is)

pub returns : goal.returns
returns c = rw (bar_bounds, sym c.numeric_bounds.ensures ∙ c.in-Some.is)
