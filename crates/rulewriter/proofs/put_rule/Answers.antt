-- `rulewriter::put_rule` meets its contract: the range, the priority, the flags and the kind. Assumes nothing.
use native.Mathlib.Omega.{arith}
use Rattle.grammar.specs.Parts.{bytes}
use Rattle.put.proofs.Laws.{Lent, puts_as, puts_on}
use Rattle.rulewriter.proofs.Texts.{rule_text}
use Rattle.rulewriter.proofs.put_rule.Goals as goal

pub returns : goal.returns
unfolding bytes
returns c =
    let lent : Lent c.args.text.now = omega arith in
    puts_as (
    puts_on c.put_range.ensures lent λ lent.
    puts_on c.put_priority.ensures lent λ lent.
    puts_on c.put_either.ensures lent λ lent.
    puts_on c.put_either-2.ensures lent λ lent. c.put_kind.ensures)
    (rule_text _ _)
