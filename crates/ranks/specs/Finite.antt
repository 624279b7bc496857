-- Values that are all finite, of which a number is told. Assumes nothing.
use Rattle.std.specs.Prelude.{Bool, true, cond, ◌&&◌, List, [], ◌∷◌, Float, Some, None}
use Rattle.model.specs.Options.{Reading}
use Rattle.model.specs.Readings.{finite}

unfoldable pub all_finite : List Float → Bool
all_finite [] = true
all_finite (x ∷ xs) = finite x && all_finite xs

-- the number v, if all values are finite
unfoldable pub if_finite : List Float → Float → Reading
if_finite xs v = cond (all_finite xs) (Some v) None
