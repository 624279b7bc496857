-- What the values that an arm `_` takes come to. They are told by their tags, in the order of their declaration. Assumes nothing.
use Prim.Native.Nat.{ℕ}
use mathlib.Core.Path.{◌≡◌, refl}
use mathlib.Core.Bool.{Bool}
use mathlib.Core.List.{List, [], ◌∷◌}
use types.Run.{OneOf, miss}
use denote.Enum.Declared.{tag_of}
use Rattle.model.specs.contracts.Test as Test-type
use Rattle.model.specs.Options.{Reading}
use Rattle.model.specs.declared.Test.{Test}
use Rattle.model.specs.Rule.{on_value}
use Rattle.hits.specs.Verdict.{by_number, verdict_on}

-- ---- scales, bar, rank and average

abbrev of_number : List ℕ
of_number = 1 ∷ 2 ∷ 3 ∷ 4 ∷ 5 ∷ []

pub verdict_on_by_number : (t : Test) → OneOf of_number (tag_of Test-type.the_type t) → (imported : Bool) (value first second : Reading) (found : ℕ)
    → verdict_on t imported value first second found ≡ on_value value (by_number t imported)
unfolding verdict_on
verdict_on_by_number (Test.CellIs op p q fill) h imported value first second found = absurd (miss of_number 0 tt h)
verdict_on_by_number (Test.ColorScale2 min max low high) h imported value first second found = refl
verdict_on_by_number (Test.ColorScale3 min mid max low middle high) h imported value first second found = refl
verdict_on_by_number (Test.DataBar color low high) h imported value first second found = refl
verdict_on_by_number (Test.TopBottom bottom bound fill) h imported value first second found = refl
verdict_on_by_number (Test.AboveAverage below bound fill) h imported value first second found = refl
verdict_on_by_number (Test.DuplicateValues unique fill) h imported value first second found = absurd (miss of_number 6 tt h)
verdict_on_by_number (Test.Expression op p q fill) h imported value first second found = absurd (miss of_number 7 tt h)
