-- `ratio::packed` meets its contract: three bytes fit a u32. Assumes nothing.
use mathlib.Core.Path.{refl}
use Rattle.model.specs.Ratio.{packed}
use Rattle.ratio.proofs.packed.Goals as goal

pub returns : goal.returns
unfolding packed
returns c = refl
