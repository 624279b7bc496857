-- `checks::sheet::first_fall` meets its contract. Where `any_fall` tells of none, there is no first. Assumes nothing.
use Rattle.std.proofs.Common.{◌-◌, refl, length, rules, tests}
use Rattle.std.proofs.lemmas.Iterator.{YieldsList-from_range}
use Rattle.std.proofs.lemmas.Iterator.Search.{find_from_yields_List}
use Rattle.model.specs.Job.{falls_at, first_fall}
use Rattle.checks.proofs.Searching.{find_first}
use Rattle.checks.proofs.sheet.first_fall.Goals as goal

pub returns : goal.returns
unfolding first_fall
returns c =
    let a = c.args in
    let n = length a.rows.now in
    let test = falls_at a.rows.now a.cols.now in
    find_first test 1 (n - 1)
    (find_from_yields_List test _ _ _ c.find.ensures.ran (YieldsList-from_range 1 n (n - 1) refl refl) (λ x b q k. search (rules, tests)))
