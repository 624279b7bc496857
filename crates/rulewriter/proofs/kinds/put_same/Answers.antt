-- `rulewriter::kinds::put_same` meets its contract: the word, which values, and the colour. Assumes nothing.
use native.Mathlib.Omega.{arith}
use mathlib.Core.Path.{refl}
use Rattle.grammar.specs.Parts.{bytes}
use Rattle.jobtext.specs.Rules.{same, kind}
use Rattle.put.proofs.Laws.{Lent, puts_as, puts_on}
use Rattle.rulewriter.proofs.kinds.put_same.Goals as goal

pub returns : goal.returns
unfolding bytes same kind
returns c =
    let lent : Lent c.args.text.now = omega arith in
    puts_as (
    puts_on c.put_bytes.ensures lent λ lent.
    puts_on c.put_either.ensures lent λ lent. c.put_colour.ensures)
    refl
