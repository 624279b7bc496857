-- `rulewriter::kinds::put_bar` meets its contract: the word, then the colour. Assumes nothing.
use native.Mathlib.Omega.{arith}
use mathlib.Core.Path.{refl}
use Rattle.grammar.specs.Parts.{bytes}
use Rattle.jobtext.specs.Rules.{bar, kind}
use Rattle.put.proofs.Laws.{Lent, puts_as, puts_on}
use Rattle.rulewriter.proofs.kinds.put_bar.Goals as goal

pub returns : goal.returns
unfolding bytes bar kind
returns c =
    let lent : Lent c.args.text.now = omega arith in
    puts_as (
    puts_on c.put_bytes.ensures lent λ lent. c.put_colour.ensures)
    refl
