-- `checks::sheet::first_bad_cell` meets its contract. Where `any_bad_cell` tells of none, there is no first. Assumes nothing.
use Rattle.std.proofs.Common.{refl, length, rules, tests}
use Rattle.std.proofs.lemmas.Iterator.{YieldsList-from_range}
use Rattle.std.proofs.lemmas.Iterator.Search.{find_from_yields_List}
use Rattle.model.specs.Lent.{cells_lent}
use Rattle.model.specs.Job.{bad_cell_at}
use Rattle.checks.proofs.Searching.{find_first}
use Rattle.checks.proofs.sheet.first_bad_cell.Goals as goal

pub returns : goal.returns
returns c =
    let a = c.args in
    let n = length a.cells.rows.now in
    let test = bad_cell_at a.pool.now (cells_lent a.cells) in
    find_first test 0 n
    (find_from_yields_List test _ _ _ c.find.ensures.ran (YieldsList-from_range 0 n n refl (search rules)) (λ x b q k. search (rules, tests)))
