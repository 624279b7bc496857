-- The table of worked values is right: one computed equation over the whole, and from it the equation of each row.
-- It is computed row by row, so that a wrong row shows what it gives and what it says. Assumes nothing.
use Prim.Native.Nat.{ℕ}
use mathlib.Core.Path.{◌≡◌, refl, sym, ◌∙◌, ap, ap₂}
use mathlib.Core.List.{List, [], ◌∷◌, map}
use lib.ListN.{get_or, get_or-map}
use Rattle.model.specs.WorkedValues.{WorkedValue, table}
use Rattle.model.proofs.Computing.{tables}

abbrev gives : WorkedValue → List ℕ
gives v = v.gives

abbrev says : WorkedValue → List ℕ
says v = v.says

-- each row gives what it says
abbrev Right : List WorkedValue → Type 0
Right [] = Unit
Right (v ∷ vs) = (gives v ≡ says v) × Right vs

right_alike : (vs : List WorkedValue) → Right vs → map gives vs ≡ map says vs
right_alike [] r = refl
right_alike (v ∷ vs) r = ap₂ ◌∷◌ r.0 (right_alike vs r.1)

table_right : Right table
unfolding tables
table_right =
    (refl, (refl, (refl, (refl, (refl, (refl, (refl, (refl, (refl, (refl, (refl, (refl, (refl, (refl, (refl, (refl, tt))))))))))))))))

pub worked_values : map gives table ≡ map says table
worked_values = right_alike table table_right

abbrev past : WorkedValue
past = record { gives = []; says = [] }

pub each_worked_value : (i : ℕ) → (get_or table i past).gives ≡ (get_or table i past).says
each_worked_value i =
    sym (get_or-map gives table i past) ∙ ap (λ l. get_or l i []) worked_values ∙ get_or-map says table i past
