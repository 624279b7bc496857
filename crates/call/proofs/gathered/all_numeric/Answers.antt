-- `call::gathered::all_numeric` meets its contract: as many numbers as floats. Assumes nothing.
use mathlib.Core.Path.{sym, ◌∙◌}
use borrow.Author.Tests.{eqb-true}
use Rattle.call.proofs.Gathering.{all_counted}
use Rattle.call.proofs.gathered.all_numeric.Goals as goal

pub returns : goal.returns
returns c answer =
    all_counted c.args.floats.now (sym c.count_numbers.ensures ∙ eqb-true _ _ answer)
