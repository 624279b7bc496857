-- A value's place in a span, in parts per million of it: what a ratio is between ends that are not flat. Assumes nothing.
use Rattle.std.specs.Prelude.{ℕ, Float}
use Rattle.std.specs.Float.{binary64}
use Rattle.std.specs.Float.Ieee.{sub, mul, div}
use Rattle.model.specs.Ratio.{million_f, held_to_unit, rounded}

unfoldable pub spanned : Float → Float → Float → ℕ
spanned value low span = rounded (mul binary64 (held_to_unit (div binary64 (sub binary64 value low) span)) million_f)
