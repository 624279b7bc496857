-- `call::numbers::float_of` meets its contract. Assumes nothing.
use mathlib.Core.Path.{◌≡◌, refl, ◌∙◌}
use lib.Ieee.{Float, nan, of_bits}
use Rattle.std.specs.Prelude.{Option, Some, None}
use Rattle.std.specs.Option.{unwrap_or}
use Rattle.hits.specs.Said.{as_float}
use Rattle.call.proofs.numbers.float_of.Goals as goal

or_nan : (o : Option Float) → unwrap_or o nan ≡ as_float o
unfolding as_float
or_nan (Some x) = refl
or_nan None = refl

pub returns : goal.returns
unfolding of_bits
returns c = c.unwrap_or.ensures ∙ or_nan c.args.reading
