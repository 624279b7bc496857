-- `report::is_shaped` meets its contract: the kind of the rule that is there, and none past the end. Assumes nothing.
use mathlib.Core.Path.{ap, ◌∙◌}
use Rattle.model.specs.declared.Rule.{Rule}
use Rattle.model.specs.Rule.{has_shape}
use Rattle.report.proofs.Shaped.{shaped_within, shaped_past}
use Rattle.report.proofs.is_shaped.Goals as goal

pub returns-in-Some : goal.returns-in-Some
returns-in-Some c =
    let found = c.in-Some.ensures.lookup in
    c.has_shape.ensures
    ∙ ap (λ (r : Rule). has_shape r.kind) (found.3.1 c.in-Some.rule.now)
    ∙ shaped_within _ _ _ found.3.0

pub returns-in-None : goal.returns-in-None
returns-in-None c = shaped_past _ _ c.in-None.ensures.lookup.3
