-- `readings::text::is_plain` meets its contract. Assumes nothing.
use Rattle.std.proofs.Common.{◌∙◌, rules, tests}
use Rattle.std.proofs.lemmas.Iterator.{YieldsList-from_slice}
use Rattle.std.proofs.lemmas.Iterator.Search.{all_from_yields_List}
use Rattle.readings.proofs.Bytes.{plain_byte, plain_is}
use Rattle.readings.proofs.text.is_plain.Goals as goal

pub returns : goal.returns
returns c =
    all_from_yields_List plain_byte _ _ _ c.all.ensures.ran (YieldsList-from_slice c.args.text.now cc) (λ x b q k. search (rules, tests))
    ∙ plain_is _
