-- Each comparison of two floats as an interval, which may end at an infinity, and as the way in which they are wanted to stand to each
-- other. Assumes nothing.
use mathlib.Core.Path.{◌≡◌, refl, ◌∙◌}
use mathlib.Core.Bool.{true, false, ◌||◌, and-true, or-false, or_comm}
use lib.Ieee.{Float, inf, lt, le, eq, ne}
use Rattle.hits.specs.Said.{interval, meets, wanted_as, compared}
use Rattle.hits.proofs.Numbers.{IsNumber, lt_bottom, top_lt, le_top, bottom_le, top_bottom, more_or_equal, both_equal, either_differs}

-- ---- intervals

module _ (x : Float) where
  pub meets_above : (a : Float) → meets (interval false (inf true) a) x ≡ lt a x
  unfolding meets
  meets_above a = rw (lt_bottom x)

  pub meets_below : (a : Float) → meets (interval false a (inf false)) x ≡ lt x a
  unfolding meets
  meets_below a = rw (top_lt x) (or-false (lt x a))

  pub meets_none : meets (interval true (inf false) (inf true)) x ≡ false
  unfolding meets
  meets_none = top_bottom x

module _ (x : Float) (p : IsNumber x) where
  pub meets_at_least : (a : Float) → meets (interval true a (inf false)) x ≡ le a x
  unfolding meets
  meets_at_least a = rw (le_top x p) (and-true (le a x))

  pub meets_at_most : (a : Float) → meets (interval true (inf true) a) x ≡ le x a
  unfolding meets
  meets_at_most a = rw (bottom_le x p)

  pub meets_every : meets (interval true (inf true) (inf false)) x ≡ true
  unfolding meets
  meets_every = rw (bottom_le x p, le_top x p)

  pub meets_same : (a : Float) → IsNumber a → meets (interval true a a) x ≡ eq x a
  unfolding meets
  meets_same a q = both_equal x a p q

  pub meets_other : (a : Float) → IsNumber a → meets (interval false a a) x ≡ ne x a
  unfolding meets
  meets_other a q = either_differs x a p q

-- ---- orders

module _ (x y : Float) where
  pub wanted_less : compared (wanted_as true false false) x y ≡ lt x y
  unfolding compared
  wanted_less = or-false (lt x y || false) ∙ or-false (lt x y)

  pub wanted_same : compared (wanted_as false true false) x y ≡ eq x y
  unfolding compared
  wanted_same = or-false (eq x y)

  pub wanted_more : compared (wanted_as false false true) x y ≡ lt y x
  unfolding compared
  wanted_more = refl

  pub wanted_at_most : compared (wanted_as true true false) x y ≡ le x y
  unfolding compared le
  wanted_at_most = or-false (lt x y || eq x y)

  pub wanted_at_least : compared (wanted_as false true true) x y ≡ le y x
  unfolding compared
  wanted_at_least = or_comm (eq x y) (lt y x) ∙ more_or_equal x y

  pub wanted_other : IsNumber x → IsNumber y → compared (wanted_as true false true) x y ≡ ne x y
  unfolding compared
  wanted_other p q = rw (or-false (lt x y)) (either_differs x y p q)
