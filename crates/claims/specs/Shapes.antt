-- What is claimed of shapes (document 02), as statements only: of a ratio by the definition, and of the marks that the call over lent columns
-- leaves. A ratio's shape is plain (0), flat (1) or too wide (2); in the upper half of a scale with three colours a mark has 3 more.
-- proofs/ShapesHeld.antt proves them. Assumes nothing.
use Rattle.std.specs.Prelude.{ℕ, ◌≤◌, ◌<◌, ◌≡◌, ◌↔◌, ◌≢◌, true, false, T, Float, get_or}
use Rattle.std.specs.Float.{binary64}
use Rattle.std.specs.Float.Ieee.{fits, sub, lt, le}
use Rattle.model.specs.Options.{Answer}
use Rattle.model.specs.declared.Rule.{Rule}
use Rattle.model.specs.declared.Shape.{Shape}
use Rattle.model.specs.Readings.{finite}
use Rattle.model.specs.Ratio.{normalized, ratio}
use Rattle.model.specs.Rule.{has_shape}
use Rattle.model.specs.Job.{Job, rules_of}
use Rattle.model.specs.Columns.{Columns}
use Rattle.laws.specs.Demands.{mark_count}
use Rattle.claims.specs.Claims.{Where, Ends}

-- ---- of a ratio

-- plain exactly where the ppm is a true place between two ends: the lower end is at 0 and the upper one at 1,000,000. The ends are f64s,
-- which is what `fits` says; a float of the definition may also be a number that no f64 is.
abbrev pub PlainExactly : Type 0
PlainExactly = (value minimum maximum : Float) → T (fits binary64 minimum) → T (fits binary64 maximum)
    → ((normalized value minimum maximum).shape ≡ Shape.Plain)
    ↔ ((ratio minimum minimum maximum ≡ 0) × (ratio maximum minimum maximum ≡ 1_000_000))

-- the same by the ends alone
abbrev pub PlainRises : Type 0
PlainRises = (value minimum maximum : Float) → ((normalized value minimum maximum).shape ≡ Shape.Plain)
    ↔ ((lt minimum maximum ≡ true) × (finite (sub binary64 maximum minimum) ≡ true))

abbrev pub FlatExactly : Type 0
FlatExactly = (value minimum maximum : Float) → ((normalized value minimum maximum).shape ≡ Shape.Flat) ↔ (le maximum minimum ≡ true)

-- where it is not plain the value has no part in the ppm: between flat ends all are full, between ends that are too wide all are empty
abbrev pub FlatFull : Type 0
FlatFull = (value minimum maximum : Float) → (normalized value minimum maximum).shape ≡ Shape.Flat → ratio value minimum maximum ≡ 1_000_000

abbrev pub TooWideEmpty : Type 0
TooWideEmpty = (value minimum maximum : Float) → (normalized value minimum maximum).shape ≡ Shape.TooWide → ratio value minimum maximum ≡ 0

-- ---- of the marks that the call leaves

pub record ShapesOf (j : Job) (after : Columns) : Type 0 where
  pub at_most_five : (i : ℕ) → get_or after.shapes i 0 ≤ 5
  -- no upper half is flat: a region above the midpoint leaves the midpoint below the greatest value
  pub never_four : (i : ℕ) → get_or after.shapes i 0 ≢ 4
  -- rules other than scales and bars have none; a mark's rule is what the rule column says
  pub others : (i : ℕ) (d : Rule) → i < mark_count j → has_shape (get_or (rules_of j) (get_or after.rules i 0) d).kind ≡ false
      → get_or after.shapes i 0 ≡ 0

abbrev pub ShapesOfMarks : Type 0
ShapesOfMarks = (w : Where) (j : Job) (limit : ℕ) (before after : Columns) (a : Answer) → Ends w j limit before a after → ShapesOf j after
