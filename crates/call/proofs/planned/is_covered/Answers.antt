-- `call::planned::is_covered` meets its contract: a cell in range without a key, or as many cells as coordinates. Assumes nothing.
use mathlib.Core.Path.{sym, ap₂, ◌∙◌}
use lib.Dec.{eqb}
use Rattle.call.proofs.Covering.{uncovered, covered_by_count}
use Rattle.call.proofs.planned.is_covered.Goals as goal

pub returns-then-keyless-ne0 : goal.returns-then-keyless-ne0
returns-then-keyless-ne0 c cells codes pool regions name up rise few counted coded e =
    uncovered cells rise pool codes coded few c.args.range up regions name (λ z. c.if-keyless-ne0.true (e ∙ z))

pub returns : goal.returns
returns c cells codes pool regions name up rise few counted coded e =
    ap₂ eqb counted c.area.ensures
    ∙ covered_by_count cells rise pool codes coded few c.args.range up regions name (sym e ∙ c.if-keyless-ne0.false)
