-- What a test says of a region as a byte: 0 if it passes the region over, 1 if it paints it, 2 if the region leaves it unresolved. And the
-- same by comparisons of floats alone, where not-a-number stands for no number. Assumes nothing.
use Rattle.std.specs.Prelude.{ℕ, Bool, true, false, cond, not, ◌&&◌, ◌||◌, ltb, eqb, Float, Some, None}
use Rattle.std.specs.Float.{nan}
use Rattle.std.specs.Float.Ieee.{lt, le, eq}
use Rattle.model.specs.declared.DvOp.{DvOp}
use Rattle.model.specs.declared.Outcome.{Outcome}
use Rattle.model.specs.Options.{Reading}
use Rattle.hits.specs.declared.Interval.{Interval}
use Rattle.hits.specs.declared.Wanted.{Wanted}

-- ---- a number as a float

-- the float that a column has for a reading
unfoldable pub as_float : Reading → Float
as_float (Some x) = x
as_float None = nan

-- what a float of a column reads as
unfoldable pub reading_of : Float → Reading
reading_of x = cond (eq x x) (Some x) None

-- ---- bytes

unfoldable pub byte_of : Outcome → ℕ
byte_of Outcome.Stopped = 0
byte_of Outcome.Passed = 0
byte_of Outcome.Unresolved = 2
byte_of (Outcome.Painted p) = 1

abbrev pub interval : Bool → Float → Float → Interval
interval inside low high = cond inside (Interval.Inside low high) (Interval.Outside low high)

-- a number inside an interval with both its ends, or outside it; not-a-number is neither
unfoldable pub meets : Interval → Float → Bool
meets (Interval.Inside low high) x = le low x && le x high
meets (Interval.Outside low high) x = lt x low || lt high x

unfoldable pub say_interval : Interval → Float → ℕ
say_interval v x = cond (meets v x) 1 0

abbrev pub wanted_as : Bool → Bool → Bool → Wanted
wanted_as less same more = record { less = less; same = same; more = more }

-- two numbers that stand to each other as wanted
unfoldable pub compared : Wanted → Float → Float → Bool
compared w x y = (w.less && lt x y) || (w.same && eq x y) || (w.more && lt y x)

-- without the second there is no answer; without the first none is asked for, unless it is needed
unfoldable pub say_compared : Wanted → Bool → Float → Float → ℕ
say_compared w needed x y =
    cond ((not (eq y y) && (eq x x || needed)) || (not (eq x x) && needed)) 2 (cond (compared w x y) 1 0)

unfoldable pub say_between : Bool → Float → Float → Float → ℕ
say_between inside x a b =
    cond (eq x x && (not (eq a a) || not (eq b b))) 2 (cond (meets (interval inside a b) x) 1 0)

-- a key that stands once in range, or more than once
unfoldable pub say_counted : Bool → ℕ → ℕ
say_counted unique found = cond (cond unique (eqb found 1) (ltb 1 found)) 1 0

unfoldable pub is_between : DvOp → Bool
is_between DvOp.Between = true
is_between DvOp.NotBetween = false
is_between DvOp.Equal = false
is_between DvOp.NotEqual = false
is_between DvOp.GreaterThan = false
is_between DvOp.LessThan = false
is_between DvOp.GreaterThanOrEqual = false
is_between DvOp.LessThanOrEqual = false
