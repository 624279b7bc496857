-- `readings::text::is_ascii` meets its contract. Assumes nothing.
use Rattle.std.proofs.Common.{◌∙◌, ltb, rules, tests}
use Rattle.std.proofs.lemmas.Iterator.{YieldsList-from_slice}
use Rattle.std.proofs.lemmas.Iterator.Search.{all_from_yields_List}
use Rattle.model.specs.Readings.{ascii}
use Rattle.readings.proofs.Bytes.{every_is}
use Rattle.readings.proofs.text.is_ascii.Goals as goal

pub returns : goal.returns
unfolding ascii
returns c =
    all_from_yields_List (λ b. ltb b 128) _ _ _ c.all.ensures.ran (YieldsList-from_slice c.args.text.now cc) (λ x b q k. search (rules, tests))
    ∙ every_is _ _
