-- `rulewriter::kinds::put_scale3` meets its contract: the word, then three colours. Assumes nothing.
use native.Mathlib.Omega.{arith}
use mathlib.Core.Path.{refl}
use Rattle.grammar.specs.Parts.{bytes}
use Rattle.jobtext.specs.Rules.{scale3, kind}
use Rattle.put.proofs.Laws.{Lent, puts_as, puts_on}
use Rattle.rulewriter.proofs.kinds.put_scale3.Goals as goal

pub returns : goal.returns
unfolding bytes scale3 kind
returns c =
    let lent : Lent c.args.text.now = omega arith in
    puts_as (
    puts_on c.put_bytes.ensures lent λ lent.
    puts_on c.put_colour.ensures lent λ lent.
    puts_on c.put_colour-2.ensures lent λ lent. c.put_colour-3.ensures)
    refl
