-- `last_kept` meets its contract: the bytes are gone through from their end. Assumes nothing.
use Rattle.std.proofs.Common.{rules, tests}
use Rattle.std.proofs.lemmas.Iterator.Adapters.{YieldsList-from_rev_slice}
use Rattle.std.proofs.lemmas.Iterator.Search.{position_from_yields_List}
use Rattle.split.proofs.Trimming.{kept, end_kept}
use Rattle.split.proofs.last_kept.Goals as goal

pub returns-clause-kept : goal.returns-clause-kept
returns-clause-kept c =
    end_kept _ _ _
    (position_from_yields_List kept _ _ _ c.position-kept.ensures.ran (YieldsList-from_rev_slice c.args.bytes.now cc) (λ x b q k. search (rules, tests)))
    c.unwrap_or.ensures
