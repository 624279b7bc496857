-- `call::marks::kind_by` meets its contract: a bar, or any other test. Assumes nothing.
use mathlib.Core.Path.{sym, ◌∙◌}
use borrow.Author.Rules.{rules}
use Rattle.hits.specs.Painted.{kind_by}
use Rattle.turns.proofs.Planning.{no_bar_test}
use Rattle.call.proofs.Painting.{unbarred}
use borrow.Enum.Refused.{opened}
use Rattle.call.proofs.marks.kind_by.Goals as goal

pub returns-then-imported : goal.returns-then-imported
unfolding kind_by
returns-then-imported c = search rules

pub returns-else-imported : goal.returns-else-imported
unfolding kind_by
returns-else-imported c = search rules

pub returns-then-imported-2 : goal.returns-then-imported-2
returns-then-imported-2 c = sym ((unbarred _ (no_bar_test _ (opened c.in_default.in_default-own.keys2))).kind _ ∙ rw c.if-imported-2.true)

pub returns-else-imported-2 : goal.returns-else-imported-2
returns-else-imported-2 c = sym ((unbarred _ (no_bar_test _ (opened c.in_default.in_default-own.keys2))).kind _ ∙ rw c.if-imported-2.false)
