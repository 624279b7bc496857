use mathlib.Core.Path.{ap, ◌∙◌}
use Rattle.keys.specs.Held.{next_code}
use Rattle.keys.proofs.Searching.{code_begun, code_more, code_ended}
use Rattle.keys.proofs.text_code.Goals as goal

pub loop-b-init : goal.loop-b-init
loop-b-init c = code_begun

pub loop-b-preserved : goal.loop-b-preserved
loop-b-preserved c =
    code_more c.loop-b.invariant c.loop-b-test.true
    (c.next_code-code.ensures ∙ ap (next_code _) c.lower.ensures)

pub returns : goal.returns
returns c = code_ended c.loop-b.invariant c.loop-b-test.false
