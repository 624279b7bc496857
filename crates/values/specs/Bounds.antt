-- The least and the greatest of some values, as numeric_bounds gives them. Assumes nothing.
use Rattle.std.specs.Prelude.{Option, None, Some, cond, List, [], ◌∷◌, Float}
use Rattle.std.specs.Float.Ieee.{lt}
use Rattle.model.specs.Values.{least, greatest}
use Rattle.values.specs.declared.Bounds.{Bounds as Ends}

-- the bounds of some values, if there are any
abbrev pub Bounds : Type 0
Bounds = Option Ends

abbrev pub between : Float → Float → Ends
between low high = record { least = low; greatest = high }

-- of two, the first stays on a tie
abbrev pub lesser : Float → Float → Float
lesser x y = cond (lt y x) y x

abbrev pub greater : Float → Float → Float
greater x y = cond (lt x y) y x

-- of the values of both
abbrev pub joined : Ends → Ends → Ends
joined a b = between (lesser a.least b.least) (greater a.greatest b.greatest)

-- of bounds so far and the values after them
abbrev pub bounds_from : Ends → List Float → Ends
bounds_from b xs = between (least b.least xs) (greatest b.greatest xs)

-- of none, nothing
unfoldable pub bounds_of : List Float → Bounds
bounds_of [] = None
bounds_of (x ∷ xs) = Some (between (least x xs) (greatest x xs))
