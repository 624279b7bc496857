-- `checks::sheet::first_bad_region` meets its contract. Where `any_bad_region` tells of none, there is no first. Assumes nothing.
use Rattle.std.proofs.Common.{refl, length, rules, tests}
use Rattle.std.proofs.lemmas.Iterator.{YieldsList-from_range}
use Rattle.std.proofs.lemmas.Iterator.Search.{find_from_yields_List}
use Rattle.model.specs.Job.{bad_region_at}
use Rattle.checks.proofs.Searching.{find_first}
use Rattle.checks.proofs.sheet.first_bad_region.Goals as goal

pub returns : goal.returns
returns c =
    let a = c.args in
    let n = length a.regions.rows.now in
    let test = bad_region_at a.regions.rows.now a.regions.cols.now in
    find_first test 0 n
    (find_from_yields_List test _ _ _ c.find.ensures.ran (YieldsList-from_range 0 n n refl (search rules)) (λ x b q k. search (rules, tests)))
