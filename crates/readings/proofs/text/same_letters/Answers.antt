-- `readings::text::same_letters` meets its contract. Assumes nothing.
use Rattle.std.proofs.Common.{rules}
use Rattle.readings.proofs.Bytes.{letters_are}
use Rattle.readings.proofs.text.same_letters.Goals as goal

pub returns : goal.returns
returns c = search (rules, letters_are)
