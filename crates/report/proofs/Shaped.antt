-- The rule at an index, and what a number and a colour are shown as. Assumes nothing.
use Rattle.std.specs.Bool.{then_some}
use Prim.Native.Nat.{ℕ, zero, suc, ◌≤◌, ◌<◌}
use native.Mathlib.Omega.{arith}
use mathlib.Core.Path.{◌≡◌, refl}
use mathlib.Core.Bool.{Bool, true, false}
use mathlib.Core.List.{List, [], ◌∷◌}
use lib.ListN.{length, get_or}
use Rattle.model.specs.declared.Rule.{Rule}
use Rattle.model.specs.Rule.{has_shape}
use Rattle.reporttext.specs.Report.{number, colour, or_dash, shaped_at}
use Rattle.report.specs.Dashed.{number_or_dash, colour_or_dash}

-- ---- the rules

pub shaped_within : (rs : List Rule) (i : ℕ) (d : Rule) → i < length rs → has_shape (get_or rs i d).kind ≡ shaped_at rs i
unfolding shaped_at
shaped_within [] i d h = absurd (omega arith)
shaped_within (r ∷ rs) zero d h = refl
shaped_within (r ∷ rs) (suc i) d h = shaped_within rs i d (omega arith)

pub shaped_past : (rs : List Rule) (i : ℕ) → length rs ≤ i → false ≡ shaped_at rs i
unfolding shaped_at
shaped_past [] i h = refl
shaped_past (r ∷ rs) zero h = absurd (omega arith)
shaped_past (r ∷ rs) (suc i) h = shaped_past rs i (omega arith)

-- ---- what may be missing

pub number_shown : (there : Bool) (n end : ℕ) → number_or_dash (then_some there n) end ≡ or_dash there end (number end n)
number_shown true n end = refl
number_shown false n end = refl

pub colour_shown : (there : Bool) (c end : ℕ) → colour_or_dash (then_some there c) end ≡ or_dash there end (colour end c)
colour_shown true c end = refl
colour_shown false c end = refl
