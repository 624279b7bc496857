-- `first_kept` meets its contract. Assumes nothing.
use Rattle.std.proofs.Common.{rules, tests}
use Rattle.std.proofs.lemmas.Iterator.{YieldsList-from_slice}
use Rattle.std.proofs.lemmas.Iterator.Search.{position_from_yields_List}
use Rattle.split.proofs.Trimming.{kept, start_kept}
use Rattle.split.proofs.first_kept.Goals as goal

pub returns : goal.returns
returns c =
    start_kept _ _ _
    (position_from_yields_List kept _ _ _ c.position-kept.ensures.ran (YieldsList-from_slice c.args.bytes.now cc) (λ x b q k. search (rules, tests)))
    c.unwrap_or.ensures
