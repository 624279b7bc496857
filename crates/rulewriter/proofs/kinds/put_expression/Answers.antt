-- `rulewriter::kinds::put_expression` meets its contract: the word, the operator, the operands and the colour. Assumes nothing.
use native.Mathlib.Omega.{arith}
use Rattle.grammar.specs.Parts.{bytes}
use Rattle.put.proofs.Laws.{Lent, puts_as, puts_on}
use Rattle.rulewriter.proofs.Texts.{comparison_number, expression_text}
use Rattle.rulewriter.proofs.kinds.put_expression.Goals as goal

pub returns : goal.returns
unfolding bytes
returns c =
    let lent : Lent c.args.text.now = omega arith in
    puts_as (
    puts_on c.put_bytes.ensures lent λ lent.
    puts_on c.put_number.ensures lent λ lent.
    puts_on c.put_operand.ensures lent λ lent.
    puts_on c.put_operand-2.ensures lent λ lent. c.put_colour.ensures)
    (expression_text _ _ _ _ _ (comparison_number _))
