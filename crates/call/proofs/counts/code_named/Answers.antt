-- `call::counts::code_named` meets its contract: no entry, or the code at the place that it names. Assumes nothing.
use native.Mathlib.Omega.{arith}
use mathlib.Core.Path.{◌∙◌}
use Rattle.call.proofs.Counting.{no_code, named_code}
use Rattle.call.proofs.counts.code_named.Goals as goal

pub returns-then-entry-eq0 : goal.returns-then-entry-eq0
returns-then-entry-eq0 c = no_code _ c.if-entry-eq0.true

pub returns : goal.returns
returns c = c.at.ensures ∙ named_code _ _ (omega arith)
