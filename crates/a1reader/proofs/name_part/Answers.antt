-- `a1reader::name_part` meets its contract: a quote at the start decides. Assumes nothing.
use mathlib.Core.Path.{sym, ap, ◌∙◌}
use Rattle.a1reader.specs.Parts.{name_of}
use Rattle.a1reader.proofs.Names.{name_quoted, name_bare}
use Rattle.a1reader.proofs.name_part.Goals as goal

pub returns-then-at-eq39 : goal.returns-then-at-eq39
returns-then-at-eq39 c = c.quoted_part.ensures ∙ ap name_of (name_quoted _ (sym c.at.ensures ∙ c.if-at-eq39.true))

pub returns : goal.returns
returns c = c.bare_part.ensures ∙ ap name_of (name_bare _ (λ e. c.if-at-eq39.false (c.at.ensures ∙ e)))
