-- `rulewriter::parts::put_colour` meets its contract: three pairs of digits, then the end. Assumes nothing.
use native.Mathlib.Omega.{arith}
use Rattle.put.proofs.Laws.{Lent, puts_as, puts_on}
use Rattle.rulewriter.proofs.Texts.{colour_text}
use Rattle.rulewriter.proofs.parts.put_colour.Goals as goal

pub returns : goal.returns
returns c =
    let lent : Lent c.args.text.now = omega arith in
    puts_as (
    puts_on c.put_hex.ensures lent λ lent.
    puts_on c.put_hex-2.ensures lent λ lent.
    puts_on c.put_hex-3.ensures lent λ lent. c.put_bytes.ensures)
    (colour_text _ _)
