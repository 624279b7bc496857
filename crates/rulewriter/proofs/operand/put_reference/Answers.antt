-- `rulewriter::operand::put_reference` meets its contract: row, column, what is absolute, and the name. Assumes nothing.
use native.Mathlib.Omega.{arith}
use Rattle.put.proofs.Laws.{Lent, puts_as, puts_on}
use Rattle.rulewriter.proofs.Texts.{reference_text}
use Rattle.rulewriter.proofs.operand.put_reference.Goals as goal

pub returns : goal.returns
returns c =
    let lent : Lent c.args.text.now = omega arith in
    puts_as (
    puts_on c.put_number.ensures lent λ lent.
    puts_on c.put_number-2.ensures lent λ lent.
    puts_on c.put_number-3.ensures lent λ lent. c.put_name.ensures)
    (reference_text _ _ c.absolute_code.ensures)
