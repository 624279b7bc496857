-- `rulewriter::kinds::put_cell_is` meets its contract: the word, the operator, the operands and the colour. Assumes nothing.
use native.Mathlib.Omega.{arith}
use Rattle.grammar.specs.Parts.{bytes}
use Rattle.put.proofs.Laws.{Lent, puts_as, puts_on}
use Rattle.rulewriter.proofs.Texts.{dv_op_number, cell_is_text}
use Rattle.rulewriter.proofs.kinds.put_cell_is.Goals as goal

pub returns : goal.returns
unfolding bytes
returns c =
    let lent : Lent c.args.text.now = omega arith in
    puts_as (
    puts_on c.put_bytes.ensures lent λ lent.
    puts_on c.put_number.ensures lent λ lent.
    puts_on c.put_operand.ensures lent λ lent.
    puts_on c.put_second.ensures lent λ lent. c.put_colour.ensures)
    (cell_is_text _ _ _ _ _ (dv_op_number _) c.uses_second.ensures)
