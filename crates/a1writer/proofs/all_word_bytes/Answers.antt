-- `a1writer::all_word_bytes` meets its contract. Assumes nothing.
use Rattle.std.proofs.Common.{◌∙◌, rules}
use Rattle.std.proofs.lemmas.Iterator.{YieldsList-from_slice}
use Rattle.std.proofs.lemmas.Iterator.Search.{all_from_yields_List}
use Rattle.a1text.specs.Bytes.{is_word_byte}
use Rattle.readings.proofs.Bytes.{every_is}
use Rattle.a1writer.proofs.all_word_bytes.Goals as goal

pub returns : goal.returns
returns c =
    all_from_yields_List is_word_byte _ _ _ c.all.ensures.ran (YieldsList-from_slice c.args.name.now cc) (λ x b q k. search rules)
    ∙ every_is _ _
