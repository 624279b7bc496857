-- What a rule charges ahead of its regions, by the tests that the code makes; charges after those that were refused; and charges in two
-- parts, one after the other. Assumes nothing.
use Rattle.std.specs.Prelude.{Ok, Err}
use Prim.Native.Nat.{ℕ}
use mathlib.Core.Path.{◌≡◌, refl, sym}
use mathlib.Core.Bool.{true, false, ◌&&◌, false≢true}
use mathlib.Core.List.{List, [], ◌∷◌, ◌++◌}
use lib.ListN.{length, replicate}
use Rattle.charging.specs.declared.Counter.{Counter}
use Rattle.charging.specs.Charge.{Charged, Charge, one, counter, charge, and_then, spend}
use Rattle.model.specs.declared.CfRule.{CfRule}
use Rattle.model.specs.declared.Range.{Range}
use Rattle.model.specs.declared.Rule.{Rule}
use Rattle.model.specs.Sheet.{Sheet, upright, within_grid, area}
use Rattle.model.specs.Rule.{cells_in, cell_charges, ahead_of, ahead}
use Rattle.order.specs.Order.{is_duplicates}
use Rattle.plans.specs.Plans.{takes_values}

-- ---- one charge after another

and_nothing : (r : Charged) → and_then r (λ c. Ok (counter c)) ≡ r
unfolding and_then
and_nothing (Ok c) = refl
and_nothing (Err e) = refl

-- where f is g and then h from any count, it is so after charges that came to r
and_then_twice : (r : Charged) (f g h : ℕ → Charged) → ((c : ℕ) → f c ≡ and_then (g c) h) → and_then r f ≡ and_then (and_then r g) h
unfolding and_then
and_then_twice (Ok c) f g h e = e c.count
and_then_twice (Err r) f g h e = refl

spend_append : (limit c : ℕ) (a b : List Charge) → spend limit c (a ++ b) ≡ and_then (spend limit c a) (λ d. spend limit d b)
unfolding spend and_then
spend_append limit c [] b = refl
spend_append limit c (e ∷ a) b =
    and_then_twice (charge limit c e) (λ d. spend limit d (a ++ b)) (λ d. spend limit d a) (λ d. spend limit d b)
    (λ d. spend_append limit d a b)

pub spend_in_two : (limit : ℕ) (r : Charged) (a b : List Charge)
    → and_then r (λ c. spend limit c (a ++ b)) ≡ and_then (and_then r (λ c. spend limit c a)) (λ d. spend limit d b)
spend_in_two limit r a b =
    and_then_twice r (λ c. spend limit c (a ++ b)) (λ c. spend limit c a) (λ d. spend limit d b) (λ c. spend_append limit c a b)

-- ---- ahead of the regions

-- besides duplicates, in the order of `CfRule`
abbrev pub without_keys : List ℕ
without_keys = 0 ∷ 1 ∷ 2 ∷ 3 ∷ 4 ∷ 5 ∷ 7 ∷ []

module _ (s : Sheet) (range : Range) where
  ahead_of_values : (k : CfRule) → takes_values k ≡ true → ahead_of s range k ≡ cell_charges s range
  unfolding takes_values ahead_of
  ahead_of_values (CfRule.CellIs op first second fill) h = absurd (false≢true h)
  ahead_of_values (CfRule.ColorScale2 min max) h = refl
  ahead_of_values (CfRule.ColorScale3 min mid max) h = refl
  ahead_of_values (CfRule.DataBar color) h = refl
  ahead_of_values (CfRule.TopBottom number bottom percent fill) h = refl
  ahead_of_values (CfRule.AboveAverage below fill) h = refl
  ahead_of_values (CfRule.DuplicateValues unique fill) h = absurd (false≢true h)
  ahead_of_values (CfRule.Expression op left right fill) h = absurd (false≢true h)

  ahead_of_area : (k : CfRule) → (is_duplicates k && within_grid range) ≡ true → ahead_of s range k ≡ Charge.area (area range) ∷ []
  unfolding is_duplicates ahead_of
  ahead_of_area (CfRule.CellIs op first second fill) h = absurd (false≢true h)
  ahead_of_area (CfRule.ColorScale2 min max) h = absurd (false≢true h)
  ahead_of_area (CfRule.ColorScale3 min mid max) h = absurd (false≢true h)
  ahead_of_area (CfRule.DataBar color) h = absurd (false≢true h)
  ahead_of_area (CfRule.TopBottom number bottom percent fill) h = absurd (false≢true h)
  ahead_of_area (CfRule.AboveAverage below fill) h = absurd (false≢true h)
  ahead_of_area (CfRule.DuplicateValues unique fill) h = rw h
  ahead_of_area (CfRule.Expression op left right fill) h = absurd (false≢true h)

  ahead_of_none : (k : CfRule) → takes_values k ≡ false → (is_duplicates k && within_grid range) ≡ false → ahead_of s range k ≡ []
  unfolding takes_values is_duplicates ahead_of
  ahead_of_none (CfRule.CellIs op first second fill) v h = refl
  ahead_of_none (CfRule.ColorScale2 min max) v h = absurd (false≢true (sym v))
  ahead_of_none (CfRule.ColorScale3 min mid max) v h = absurd (false≢true (sym v))
  ahead_of_none (CfRule.DataBar color) v h = absurd (false≢true (sym v))
  ahead_of_none (CfRule.TopBottom number bottom percent fill) v h = absurd (false≢true (sym v))
  ahead_of_none (CfRule.AboveAverage below fill) v h = absurd (false≢true (sym v))
  ahead_of_none (CfRule.DuplicateValues unique fill) v h = rw h
  ahead_of_none (CfRule.Expression op left right fill) v h = refl

-- what the charges ahead of the regions come to, from a counter
module _ (s : Sheet) (r : Rule) (limit : ℕ) (n : Counter) where
  abbrev spent_ahead : Charged
  spent_ahead = spend limit n.count (ahead s r)

  pub ahead_inverted : upright r.range ≡ false → Ok n ≡ spent_ahead
  unfolding ahead spend
  ahead_inverted u = rw u

  module _ (u : upright r.range ≡ true) where
    pub ahead_values : takes_values r.kind ≡ true
        → spend limit n.count (replicate (length (cells_in r.range s.cells)) one) ≡ spent_ahead
    unfolding ahead cell_charges
    ahead_values h = rw (u, ahead_of_values s r.range r.kind h)

    pub ahead_area : (is_duplicates r.kind && within_grid r.range) ≡ true
        → charge limit n.count (Charge.area (area r.range)) ≡ spent_ahead
    unfolding ahead spend
    ahead_area h = rw (u, ahead_of_area s r.range r.kind h) (sym (and_nothing _))

    pub ahead_none : takes_values r.kind ≡ false → (is_duplicates r.kind && within_grid r.range) ≡ false
        → Ok n ≡ spent_ahead
    unfolding ahead spend
    ahead_none v h = rw (u, ahead_of_none s r.range r.kind v h)
