-- `rulewriter::put_rules` meets its contract: the line of names, then the lines. Assumes nothing.
use native.Mathlib.Omega.{arith}
use Rattle.grammar.specs.Parts.{bytes}
use Rattle.put.proofs.Laws.{Lent, puts_as, puts_on, laid_ready}
use Rattle.rulewriter.proofs.put_rules.Goals as goal

pub put_lines-requires : goal.put_lines-requires
put_lines-requires c = laid_ready c.put_bytes.ensures.laid (omega arith)

pub returns : goal.returns
unfolding bytes
returns c =
    let lent : Lent c.args.text.now = omega arith in
    puts_as (
    puts_on c.put_bytes.ensures lent λ lent. c.put_lines.ensures)
    (rw c.declared.ensures)
