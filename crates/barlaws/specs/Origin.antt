-- Where the bar of a region comes from (document 02): the first bar rule, by priority and then by index, whose upright range holds the
-- region's cell, if that is numeric and no earlier rule with stop-if-true has a mark on the region. Every word is one of the job and of the
-- marks that an answer has; none is of how the rules are run. Assumes nothing.
use Rattle.std.specs.Prelude.{ℕ, suc, ◌<◌, ◌≡◌, ◌⊎◌, true, Float, length, get_or, Some, None}
use mathlib.Core.List.{List, Memᴰ}
use Rattle.std.specs.Float.Ieee.{le}
use Rattle.model.specs.declared.CellCoordinate.{CellCoordinate}
use Rattle.model.specs.declared.CfRule.{CfRule}
use Rattle.model.specs.Options.{Priority}
use Rattle.model.specs.declared.Range.{Range}
use Rattle.model.specs.declared.Rgb.{Rgb}
use Rattle.model.specs.declared.Rule.{Rule}
use Rattle.model.specs.Sheet.{Sheet, in_range, upright}
use Rattle.model.specs.Readings.{numeric_at}
use Rattle.model.specs.Ratio.{ratio}
use Rattle.model.specs.Run.{Mark, IndexedRule}
use Rattle.model.specs.Job.{Job}

-- ---- numbers

-- the cell at a coordinate is numeric, and this is its number
abbrev pub Numeric : Sheet → CellCoordinate → Float → Type 0
Numeric s at x = numeric_at s.cells at ≡ Some x

-- a number of the range: that of a cell in it
pub record NumberIn (s : Sheet) (r : Range) (x : Float) : Type 0 where
  pub at : CellCoordinate
  pub inside : in_range r at ≡ true
  pub numeric : Numeric s at x

pub record LeastIn (s : Sheet) (r : Range) (x : Float) : Type 0 where
  pub there : NumberIn s r x
  pub least : (y : Float) → NumberIn s r y → le x y ≡ true

pub record GreatestIn (s : Sheet) (r : Range) (x : Float) : Type 0 where
  pub there : NumberIn s r x
  pub greatest : (y : Float) → NumberIn s r y → le y x ≡ true

-- The ppm of a number: its ratio between the least and the greatest number of the range. There are such numbers; and it is the ratio
-- between any two that are so, since of -0 and +0 either may be.
pub record PpmIn (s : Sheet) (r : Range) (x : Float) (ppm : ℕ) : Type 0 where
  pub low : Float
  pub high : Float
  pub is_low : LeastIn s r low
  pub is_high : GreatestIn s r high
  pub is : (a b : Float) → LeastIn s r a → GreatestIn s r b → ppm ≡ ratio x a b

-- ---- rules

-- the rule at its index among the rules of the job
pub record RuleOf (rules : List Rule) (i : IndexedRule) : Type 0 where
  pub within : i.index < length rules
  pub there : (d : Rule) → get_or rules i.index d ≡ i.rule

-- the written priority, or what stands for it
abbrev pub priority_or : ℕ → Priority → ℕ
priority_or other (Some p) = p
priority_or other None = other

-- the index plus one where none is written
abbrev pub priority_of : IndexedRule → ℕ
priority_of i = priority_or (suc i.index) i.rule.priority

-- by priority, and then by index
abbrev pub Earlier : IndexedRule → IndexedRule → Type 0
Earlier e i = (priority_of e < priority_of i) ⊎ ((priority_of e ≡ priority_of i) × (e.index < i.index))

-- a bar rule whose upright range holds the coordinate
pub record BarOver (at : CellCoordinate) (i : IndexedRule) : Type 0 where
  pub colour : Rgb
  pub bar : i.rule.kind ≡ CfRule.DataBar colour
  pub is_upright : upright i.rule.range ≡ true
  pub holds : in_range i.rule.range at ≡ true

-- the first of these: no other is earlier
pub record FirstBar (rules : List Rule) (at : CellCoordinate) (i : IndexedRule) : Type 0 where
  pub of_job : RuleOf rules i
  pub over : BarOver at i
  pub first : (e : IndexedRule) → RuleOf rules e → BarOver at e → Earlier e i → ⊥

-- ---- marks

-- the rule with this index has a mark on the region with that one
pub record HasMark (marks : List Mark) (rule region : ℕ) : Type 0 where
  pub mark : Mark
  pub there : Memᴰ mark marks
  pub of_rule : mark.rule ≡ rule
  pub on_region : mark.region ≡ region

-- ---- the bar of a region

-- where the region with index k stands
abbrev pub region_at : Job → ℕ → CellCoordinate
region_at j k = record { row = get_or j.region_rows k 0; col = get_or j.region_cols k 0 }

-- The bar of the region with index k, which stands at a coordinate, comes from the rule i. `Marked e k` says that the rule with index e has
-- a mark on that region.
pub record Origin (s : Sheet) (rules : List Rule) (Marked : ℕ → ℕ → Type 0) (k : ℕ) (at : CellCoordinate) (i : IndexedRule) : Type 0 where
  pub number : Float
  pub numeric : Numeric s at number
  pub first : FirstBar rules at i
  -- no earlier rule with stop-if-true has a mark on the region
  pub unstopped : (e : IndexedRule) → RuleOf rules e → Earlier e i → e.rule.stop ≡ true → Marked e.index k → ⊥

-- what an answer has as the bar of that region: `bar_rule` is the rule plus one, 0 for none
pub record BarFrom (s : Sheet) (rules : List Rule) (Marked : ℕ → ℕ → Type 0) (k : ℕ) (at : CellCoordinate)
    (bar_rule bar_ppm : ℕ) : Type 0 where
  -- the rule that it comes from, and the ppm of the cell's number in that rule's range
  pub drawn : (i : IndexedRule) (o : Origin s rules Marked k at i)
      → (bar_rule ≡ suc i.index) × PpmIn s i.rule.range o.number bar_ppm
  -- otherwise none
  pub otherwise : ((i : IndexedRule) → Origin s rules Marked k at i → ⊥) → (bar_rule ≡ 0) × (bar_ppm ≡ 0)
  pub blank : numeric_at s.cells at ≡ None → (bar_rule ≡ 0) × (bar_ppm ≡ 0)
  -- and so a rule that stands there is the one that it comes from
  pub from : (n : ℕ) → bar_rule ≡ suc n → (i : IndexedRule) × (i.index ≡ n) × Origin s rules Marked k at i
