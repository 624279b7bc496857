-- `rulewriter::operand::put_operand` meets its contract: in each arm the operand is known. Assumes nothing.
use native.Mathlib.Omega.{arith}
use Rattle.grammar.specs.Parts.{bytes}
use Rattle.jobtext.specs.Fields.{operand}
use Rattle.jobtext.specs.Said.{literal_said, operand_said}
use Rattle.put.proofs.Laws.{Lent, puts_as, puts_on}
use Rattle.rulewriter.proofs.Texts.{operand_as}
use Rattle.rulewriter.proofs.operand.put_operand.Goals as goal

pub returns-in-Literal : goal.returns-in-Literal
unfolding literal_said operand_said
returns-in-Literal c =
    puts_as c.put_literal.ensures (operand_as _ c.in-Literal.is)

pub returns-in-Reference : goal.returns-in-Reference
unfolding bytes operand operand_said
returns-in-Reference c =
    let lent : Lent c.args.text.now = omega arith in
    puts_as (
    puts_on c.put_byte.ensures lent λ lent. c.put_reference.ensures)
    (operand_as _ c.in-Reference.is)

pub returns-in-Unread : goal.returns-in-Unread
unfolding bytes operand operand_said
returns-in-Unread c =
    puts_as c.put_bytes.ensures (operand_as _ c.in-Unread.is)
