-- What a rule says of a region is small: a mark's kind is one of 1 to 4, its ppm at most 1,000,000, and its shape at most 5.
-- Assumes nothing.
use Rattle.std.specs.Prelude.{Some, None}
use Prim.Native.Nat.{ℕ, ◌≤◌, ◌+◌}
use native.Mathlib.Omega.{arith}
use mathlib.Core.Bool.{Bool, true, false, cond}
use mathlib.Core.List.{List, [], ◌∷◌}
use lib.Ieee.{Float, le}
use Rattle.model.specs.declared.CellCoordinate.{CellCoordinate}
use Rattle.model.specs.declared.Normalized.{Normalized}
use Rattle.model.specs.declared.Outcome.{Outcome}
use Rattle.model.specs.declared.Paint.{Paint}
use Rattle.model.specs.Options.{Reading}
use Rattle.model.specs.declared.Rgb.{Rgb}
use Rattle.model.specs.declared.Rule.{Rule}
use Rattle.model.specs.declared.Shape.{Shape}
use Rattle.model.specs.declared.Test.{Test}
use Rattle.model.specs.Sheet.{Sheet, in_range}
use Rattle.model.specs.Ratio.{normalized, ratio, shape_number}
use Rattle.model.specs.Rule.{filled, scaled, barred, filled_if, on_value, on_operand, on_second, verdict}
use Rattle.model.specs.Run.{RegionState, outcome, outcomes}
use Rattle.laws.proofs.Ratio.{ratio_at_most}

pub record SmallPaint (p : Paint) : Type 0 where
  pub kind : p.kind ≤ 4
  pub ppm : p.ppm ≤ 1_000_000
  pub shape : p.shape ≤ 5

abbrev pub SmallOutcome : Outcome → Type 0
SmallOutcome Outcome.Stopped = Unit {0}
SmallOutcome Outcome.Passed = Unit {0}
SmallOutcome Outcome.Unresolved = Unit {0}
SmallOutcome (Outcome.Painted p) = SmallPaint p

-- ---- the parts of a verdict

shape_small : (s : Shape) → shape_number s ≤ 2
unfolding shape_number
shape_small Shape.Plain = omega arith
shape_small Shape.Flat = omega arith
shape_small Shape.TooWide = omega arith

small_filled : (imported : Bool) (shape : ℕ) (fill : Rgb) → shape ≤ 5 → SmallOutcome (filled imported shape fill)
unfolding filled
small_filled true shape fill h = record { kind = omega arith; ppm = omega arith; shape = h }
small_filled false shape fill h = record { kind = omega arith; ppm = omega arith; shape = h }

small_scaled : (imported : Bool) (more : ℕ) (start end : Rgb) (n : Normalized) → more ≤ 3 → SmallOutcome (scaled imported more start end n)
unfolding scaled
small_scaled imported more start end n h =
    small_filled imported (more + shape_number n.shape) _ (omega (arith, shape_small n.shape))

small_barred : (imported : Bool) (color : Rgb) (n : Normalized) → n.ppm ≤ 1_000_000 → SmallOutcome (barred imported color n)
unfolding barred
small_barred true color n h = record { kind = omega arith; ppm = h; shape = omega (arith, shape_small n.shape) }
small_barred false color n h = record { kind = omega arith; ppm = h; shape = omega (arith, shape_small n.shape) }

small_filled_if : (met imported : Bool) (fill : Rgb) → SmallOutcome (filled_if met imported fill)
unfolding filled_if
small_filled_if true imported fill = small_filled imported 0 fill (omega arith)
small_filled_if false imported fill = tt

small_on_value : (x : Reading) (say : Float → Outcome) → ((v : Float) → SmallOutcome (say v)) → SmallOutcome (on_value x say)
unfolding on_value
small_on_value (Some v) say h = h v
small_on_value None say h = tt

small_on_operand : (x : Reading) (say : Float → Outcome) → ((v : Float) → SmallOutcome (say v)) → SmallOutcome (on_operand x say)
unfolding on_operand
small_on_operand (Some v) say h = h v
small_on_operand None say h = tt

small_on_second : (used : Bool) (y : Reading) (say : Reading → Outcome) → ((z : Reading) → SmallOutcome (say z))
    → SmallOutcome (on_second used y say)
unfolding on_second
small_on_second true (Some v) say h = h (Some v)
small_on_second true None say h = tt
small_on_second false y say h = h None

-- ---- a region

small_cond : (b : Bool) (x y : Outcome) → SmallOutcome x → SmallOutcome y → SmallOutcome (cond b x y)
small_cond true x y h k = h
small_cond false x y h k = k

small_verdict : (s : Sheet) (r : Rule) (at : CellCoordinate) (t : Test) → SmallOutcome (verdict s r at t)
unfolding verdict ratio
small_verdict s r at (Test.CellIs op first second fill) =
    small_on_value _ _ (λ x. small_on_operand _ _ (λ a. small_on_second _ _ _ (λ b. small_filled_if _ _ fill)))
small_verdict s r at (Test.ColorScale2 min max low high) = small_on_value _ _ (λ x. small_scaled _ 0 min max _ (omega arith))
small_verdict s r at (Test.ColorScale3 min mid max low middle high) =
    small_on_value _ _ (λ x.
    small_cond (le x middle) (scaled r.imported 0 min mid (normalized x low middle))
    (scaled r.imported 3 mid max (normalized x middle high)) (small_scaled _ 0 min mid _ (omega arith))
    (small_scaled _ 3 mid max _ (omega arith)))
small_verdict s r at (Test.DataBar color low high) = small_on_value _ _ (λ x. small_barred _ color _ (ratio_at_most x low high))
small_verdict s r at (Test.TopBottom bottom bound fill) = small_on_value _ _ (λ x. small_filled_if _ _ fill)
small_verdict s r at (Test.AboveAverage below bound fill) = small_on_value _ _ (λ x. small_filled_if _ _ fill)
small_verdict s r at (Test.DuplicateValues unique fill) = small_filled_if _ _ fill
small_verdict s r at (Test.Expression op left right fill) =
    small_on_operand _ _ (λ a. small_on_operand _ _ (λ b. small_filled_if _ _ fill))

small_outcome : (s : Sheet) (r : Rule) (t : Test) (at : CellCoordinate) (state : RegionState) → SmallOutcome (outcome s r t at state)
unfolding outcome
small_outcome s r t at state =
    small_cond state.stopped Outcome.Stopped _ tt (small_cond (in_range r.range at) (verdict s r at t) Outcome.Passed
    (small_verdict s r at t) tt)

-- ---- the regions

abbrev pub SmallOutcomes : List Outcome → Type 0
SmallOutcomes [] = Unit {0}
SmallOutcomes (o ∷ os) = SmallOutcome o × SmallOutcomes os

pub small_outcomes : (s : Sheet) (r : Rule) (t : Test) (ats : List CellCoordinate) (states : List RegionState)
    → SmallOutcomes (outcomes s r t ats states)
unfolding outcomes
small_outcomes s r t [] states = tt
small_outcomes s r t (at ∷ ats) [] = tt
small_outcomes s r t (at ∷ ats) (state ∷ states) = (small_outcome s r t at state, small_outcomes s r t ats states)
