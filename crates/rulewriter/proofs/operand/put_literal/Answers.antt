-- `rulewriter::operand::put_literal` meets its contract: the bits of a finite number, else `u`. Assumes nothing.
use native.Mathlib.Omega.{arith}
use mathlib.Core.Path.{refl, sym, ◌∙◌}
use Rattle.grammar.specs.Parts.{bytes}
use Rattle.put.proofs.Laws.{Lent, puts_as, puts_on}
use Rattle.rulewriter.proofs.Texts.{finite_number, literal_unread, literal_finite}
use Rattle.rulewriter.proofs.operand.put_literal.Goals as goal

pub float_to_bits-x : goal.float_to_bits-x
float_to_bits-x c = finite_number _ (sym c.is_finite.ensures ∙ c.if-is_finite.true)

pub returns-then-is_finite : goal.returns-then-is_finite
unfolding bytes
returns-then-is_finite c =
    let finite = sym c.is_finite.ensures ∙ c.if-is_finite.true in
    let lent : Lent c.args.text.now = omega arith in
    puts_as (
    puts_on c.put_byte.ensures lent λ lent.
    puts_on c.put_hex.ensures lent λ lent. c.put_byte-then-is_finite.ensures)
    (literal_finite _ finite refl)

pub returns-else-is_finite : goal.returns-else-is_finite
unfolding bytes
returns-else-is_finite c =
    puts_as c.put_bytes.ensures (literal_unread _ (sym c.is_finite.ensures ∙ c.if-is_finite.false))
