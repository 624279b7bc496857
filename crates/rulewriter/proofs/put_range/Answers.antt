-- `rulewriter::put_range` meets its contract: four numbers. Assumes nothing.
use native.Mathlib.Omega.{arith}
use mathlib.Core.Path.{refl}
use Rattle.put.proofs.Laws.{Lent, puts_as, puts_on}
use Rattle.rulewriter.proofs.put_range.Goals as goal

pub returns : goal.returns
returns c =
    let lent : Lent c.args.text.now = omega arith in
    puts_as (
    puts_on c.put_number.ensures lent λ lent.
    puts_on c.put_number-2.ensures lent λ lent.
    puts_on c.put_number-3.ensures lent λ lent. c.put_number-4.ensures)
    refl
