-- What the reader of a rule line answers for each result of the grammar. Assumes nothing.
use Rattle.std.specs.Prelude.{ℕ, Bool, List, Result}
use Rattle.model.specs.Options.{Priority}
use Rattle.model.specs.declared.Range.{Range}
use Rattle.model.specs.declared.Rule.{Rule}
use Rattle.grammar.specs.Gram.{Got, Gram}
use Rattle.grammar.specs.Gram.Got.{got}
use Rattle.grammar.specs.Parts.{then, both}
use Rattle.fields.specs.declared.Malformed.{Malformed}
use Rattle.jobtext.specs.Written.{Kind, RuleLine}
use Rattle.jobtext.specs.Fields.{flag, priority}
use Rattle.jobtext.specs.Rules.{kind}
use Rattle.jobtext.specs.Laid.{kind_bytes, rule_at}
use Rattle.rulelines.specs.declared.Laid.{Laid}
use Rattle.rulelines.specs.Lines.{laid_of}

unfoldable pub rule_bytes_of : RuleLine → List ℕ
rule_bytes_of l = kind_bytes l.kind

abbrev pub rule_of : Got RuleLine → ℕ → Result (Laid Rule) Malformed
rule_of g u = laid_of rule_at rule_bytes_of g u

-- what stands behind the range
abbrev pub rest_t : Type 0
rest_t = Priority × (Bool × (Bool × Kind))

unfoldable pub rest : Gram rest_t
rest = both priority (both flag (both flag kind))

abbrev pub behind_range : Range → Got rest_t → Got RuleLine
behind_range g r =
    then r (λ x e. got (record { range = g; priority = x.0; stop = x.1.0; imported = x.1.1.0; kind = x.1.1.1 }) e)
