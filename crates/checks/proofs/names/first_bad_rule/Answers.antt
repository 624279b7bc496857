-- `checks::names::first_bad_rule` meets its contract. Assumes nothing.
use Rattle.std.proofs.Common.{◌∙◌, take, rules, tests}
use Rattle.std.proofs.lemmas.Iterator.{YieldsList-from_slice}
use Rattle.std.proofs.lemmas.Iterator.Search.{position_from_yields_List}
use Rattle.model.specs.declared.Rule.{Rule}
use Rattle.model.specs.Job.{bad_kind}
use Rattle.checks.proofs.Searching.{first_rule}
use Rattle.checks.proofs.names.first_bad_rule.Goals as goal

pub returns : goal.returns
returns c =
    position_from_yields_List (λ (r : Rule). bad_kind c.args.pool.now r.kind) _ _ _ c.position.ensures.ran
    (YieldsList-from_slice (take c.args.rules.now.number c.args.rules.now.records) cc) (λ x b q k. search (rules, tests))
    ∙ first_rule c.args.pool.now _
