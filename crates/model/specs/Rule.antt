-- One rule: the cells of its range, what it charges ahead of the regions, what it comes to, and what it says of a region in range
-- (document 01, 'Rules'). No limit is known here. Assumes nothing.
use Rattle.std.specs.Prelude.{ℕ, zero, suc, ◌+◌, ◌-◌, Bool, true, false, cond, ◌&&◌, ◌||◌, List, [], ◌∷◌, ltb, eqb, length, replicate, Float, Some, None}
use Rattle.std.specs.Float.Ieee.{lt, le}
use Rattle.charging.specs.Charge.{Charge, one}
use Rattle.model.specs.declared.CellCoordinate.{CellCoordinate}
use Rattle.model.specs.Options.{Key, Reading}
use Rattle.model.specs.declared.Range.{Range}
use Rattle.model.specs.declared.Rgb.{Rgb}
use Rattle.model.specs.declared.CfRule.{CfRule}
use Rattle.model.specs.declared.Rule.{Rule}
use Rattle.model.specs.declared.Test.{Test}
use Rattle.model.specs.declared.Plan.{Plan}
use Rattle.model.specs.declared.Normalized.{Normalized}
use Rattle.model.specs.declared.Outcome.{Outcome}
use Rattle.model.specs.Sheet.{Sheet, CellAt, in_range, upright, within_grid, area}
use Rattle.model.specs.Readings.{numeric_cell_value, numeric_at, conditional_value_key, same_key, has_key, key_at}
use Rattle.model.specs.References.{resolved, unread}
use Rattle.model.specs.Comparison.{uses_second, compare_conditional, compare}
use Rattle.model.specs.Ratio.{normalized, shape_number, interpolate_rgb, packed}
use Rattle.model.specs.Values.{least, greatest, sorted, midpoint, selected, threshold, average}

-- ---- the cells of a range, in sheet order

unfoldable pub cells_in : Range → List CellAt → List CellAt
cells_in r [] = []
cells_in r (c ∷ cs) = let later = cells_in r cs in cond (in_range r c.at) (c ∷ later) later

abbrev pub with_number : Reading → List Float → List Float
with_number (Some x) xs = x ∷ xs
with_number None xs = xs

unfoldable pub numbers : List CellAt → List Float
numbers [] = []
numbers (c ∷ cs) = with_number (numeric_cell_value c.cell) (numbers cs)

-- conditional_numeric_values
unfoldable pub values : Sheet → Range → List Float
values s r = numbers (cells_in r s.cells)

unfoldable pub keys : List ℕ → List CellAt → List Key
keys pool [] = []
keys pool (c ∷ cs) = conditional_value_key pool c.cell ∷ keys pool cs

-- how many of the keys are the same as a key
unfoldable pub times : List ℕ → Key → List Key → ℕ
times pool k [] = 0
times pool k (l ∷ ls) = cond (same_key pool k l) 1 0 + times pool k ls

-- the test holds at each of the n numbers from i on
unfoldable pub each : (ℕ → Bool) → ℕ → ℕ → Bool
each test i zero = true
each test i (suc n) = let later = each test (suc i) n in cond (test i) later false

-- each coordinate of an upright range has a cell with a key
unfoldable pub covered : Sheet → Range → Bool
covered s r =
    each (λ row. each (λ col. has_key (key_at s.pool s.cells (record { row = row; col = col }))) r.left (suc (r.right - r.left)))
    r.top (suc (r.bottom - r.top))

-- ---- what a rule charges ahead of the regions

-- one for each cell in range
unfoldable pub cell_charges : Sheet → Range → List Charge
cell_charges s r = replicate (length (cells_in r s.cells)) one

unfoldable pub ahead_of : Sheet → Range → CfRule → List Charge
ahead_of s r (CfRule.CellIs op first second fill) = []
ahead_of s r (CfRule.ColorScale2 min max) = cell_charges s r
ahead_of s r (CfRule.ColorScale3 min mid max) = cell_charges s r
ahead_of s r (CfRule.DataBar color) = cell_charges s r
ahead_of s r (CfRule.TopBottom rank bottom percent fill) = cell_charges s r
ahead_of s r (CfRule.AboveAverage below fill) = cell_charges s r
ahead_of s r (CfRule.DuplicateValues unique fill) = cond (within_grid r) (Charge.area (area r) ∷ []) []
ahead_of s r (CfRule.Expression op left right fill) = []

-- an inverted range is uncharged
unfoldable pub ahead : Sheet → Rule → List Charge
ahead s r = cond (upright r.range) (ahead_of s r.range r.kind) []

-- ---- what a rule comes to; without values, and of rank 0, it is skipped

unfoldable pub scale2 : Rgb → Rgb → List Float → Plan
scale2 min max [] = Plan.Skipped
scale2 min max (x ∷ xs) = Plan.Tested (Test.ColorScale2 min max (least x xs) (greatest x xs))

unfoldable pub scale3 : Rgb → Rgb → Rgb → List Float → Plan
scale3 min mid max [] = Plan.Skipped
scale3 min mid max (x ∷ xs) = Plan.Tested (Test.ColorScale3 min mid max (least x xs) (midpoint (sorted (x ∷ xs))) (greatest x xs))

unfoldable pub bar : Rgb → List Float → Plan
bar color [] = Plan.Skipped
bar color (x ∷ xs) = Plan.Tested (Test.DataBar color (least x xs) (greatest x xs))

unfoldable pub rank : ℕ → Bool → Bool → Rgb → List Float → Plan
rank number bottom percent fill [] = Plan.Skipped
rank zero bottom percent fill (x ∷ xs) = Plan.Skipped
rank (suc n) bottom percent fill (x ∷ xs) =
    Plan.Tested (Test.TopBottom bottom (threshold bottom (selected percent (suc n) (length (x ∷ xs))) (sorted (x ∷ xs))) fill)

-- a sum that is not finite defers
unfoldable pub against : Bool → Rgb → Reading → Plan
against below fill (Some mean) = Plan.Tested (Test.AboveAverage below mean fill)
against below fill None = Plan.Deferred

unfoldable pub mean : Bool → Rgb → List Float → Plan
mean below fill [] = Plan.Skipped
mean below fill (x ∷ xs) = against below fill (average (x ∷ xs))

-- an unread operand that is used defers, and so does a duplicate rule beyond the grid or with a coordinate that has no key
unfoldable pub plan_of : Sheet → Range → CfRule → Plan
plan_of s r (CfRule.CellIs op first second fill) =
    cond (unread first || (uses_second op && unread second)) Plan.Deferred (Plan.Tested (Test.CellIs op first second fill))
plan_of s r (CfRule.ColorScale2 min max) = scale2 min max (values s r)
plan_of s r (CfRule.ColorScale3 min mid max) = scale3 min mid max (values s r)
plan_of s r (CfRule.DataBar color) = bar color (values s r)
plan_of s r (CfRule.TopBottom number bottom percent fill) = rank number bottom percent fill (values s r)
plan_of s r (CfRule.AboveAverage below fill) = mean below fill (values s r)
plan_of s r (CfRule.DuplicateValues unique fill) =
    let all = covered s r in
    cond (within_grid r) (cond all (Plan.Tested (Test.DuplicateValues unique fill)) Plan.Deferred) Plan.Deferred
plan_of s r (CfRule.Expression op left right fill) =
    cond (unread left || unread right) Plan.Deferred (Plan.Tested (Test.Expression op left right fill))

-- an inverted range defers
unfoldable pub plan : Sheet → Rule → Plan
plan s r = cond (upright r.range) (plan_of s r.range r.kind) Plan.Deferred

unfoldable pub is_bar : CfRule → Bool
is_bar (CfRule.CellIs op first second fill) = false
is_bar (CfRule.ColorScale2 min max) = false
is_bar (CfRule.ColorScale3 min mid max) = false
is_bar (CfRule.DataBar color) = true
is_bar (CfRule.TopBottom number bottom percent fill) = false
is_bar (CfRule.AboveAverage below fill) = false
is_bar (CfRule.DuplicateValues unique fill) = false
is_bar (CfRule.Expression op left right fill) = false

-- scales and bars: the rules whose marks have a shape
unfoldable pub has_shape : CfRule → Bool
has_shape (CfRule.CellIs op first second fill) = false
has_shape (CfRule.ColorScale2 min max) = true
has_shape (CfRule.ColorScale3 min mid max) = true
has_shape (CfRule.DataBar color) = true
has_shape (CfRule.TopBottom number bottom percent fill) = false
has_shape (CfRule.AboveAverage below fill) = false
has_shape (CfRule.DuplicateValues unique fill) = false
has_shape (CfRule.Expression op left right fill) = false

-- a bar rule that had a value; an inverted range has none
unfoldable pub is_simplified : Sheet → Rule → Bool
is_simplified s r = is_bar r.kind && ltb 0 (length (values s r.range))

-- ---- what a rule says of a region in range

-- kind 2 in place of 1, without a colour, if the rule has an imported style
unfoldable pub filled : Bool → ℕ → Rgb → Outcome
filled imported shape fill =
    cond imported
    (Outcome.Painted (record { kind = 2; colour = 0; ppm = 0; shape = shape }))
    (Outcome.Painted (record { kind = 1; colour = packed fill; ppm = 0; shape = shape }))

-- a colour between two; `more` is what the half of a scale adds to the shape
unfoldable pub scaled : Bool → ℕ → Rgb → Rgb → Normalized → Outcome
scaled imported more start end n = filled imported (more + shape_number n.shape) (interpolate_rgb start end n.ppm)

unfoldable pub barred : Bool → Rgb → Normalized → Outcome
barred imported color n =
    Outcome.Painted (record { kind = cond imported 4 3; colour = packed color; ppm = n.ppm; shape = shape_number n.shape })

unfoldable pub filled_if : Bool → Bool → Rgb → Outcome
filled_if met imported fill = cond met (filled imported 0 fill) Outcome.Passed

-- a cell without a number is passed over
unfoldable pub on_value : Reading → (Float → Outcome) → Outcome
on_value (Some x) say = say x
on_value None say = Outcome.Passed

-- an operand that reads to no number leaves the rule unresolved
unfoldable pub on_operand : Reading → (Float → Outcome) → Outcome
on_operand (Some x) say = say x
on_operand None say = Outcome.Unresolved

-- the second operand, if the operator uses it
unfoldable pub on_second : Bool → Reading → (Reading → Outcome) → Outcome
on_second true (Some y) say = say (Some y)
on_second true None say = Outcome.Unresolved
on_second false y say = say None

unfoldable pub verdict : Sheet → Rule → CellCoordinate → Test → Outcome
verdict s r at (Test.CellIs op first second fill) =
    on_value (numeric_at s.cells at) (λ x.
    on_operand (resolved s r.range at first) (λ a.
    on_second (uses_second op) (resolved s r.range at second) (λ b.
    filled_if (compare_conditional x op a b) r.imported fill)))
verdict s r at (Test.ColorScale2 min max low high) =
    on_value (numeric_at s.cells at) (λ x. scaled r.imported 0 min max (normalized x low high))
verdict s r at (Test.ColorScale3 min mid max low middle high) =
    on_value (numeric_at s.cells at) (λ x.
    cond (le x middle) (scaled r.imported 0 min mid (normalized x low middle)) (scaled r.imported 3 mid max (normalized x middle high)))
verdict s r at (Test.DataBar color low high) =
    on_value (numeric_at s.cells at) (λ x. barred r.imported color (normalized x low high))
verdict s r at (Test.TopBottom bottom bound fill) =
    on_value (numeric_at s.cells at) (λ x. filled_if (cond bottom (le x bound) (le bound x)) r.imported fill)
verdict s r at (Test.AboveAverage below bound fill) =
    on_value (numeric_at s.cells at) (λ x. filled_if (cond below (lt x bound) (lt bound x)) r.imported fill)
verdict s r at (Test.DuplicateValues unique fill) =
    let found = times s.pool (key_at s.pool s.cells at) (keys s.pool (cells_in r.range s.cells)) in
    filled_if (cond unique (eqb found 1) (ltb 1 found)) r.imported fill
verdict s r at (Test.Expression op left right fill) =
    on_operand (resolved s r.range at left) (λ a.
    on_operand (resolved s r.range at right) (λ b. filled_if (compare op a b) r.imported fill))
