-- What is known of the regions says what the sheet says: each column is looked at as far as the test needs it. And a number goes into a
-- column and back as it is, since a reading is finite or there is none. Assumes nothing.
use Rattle.std.specs.Prelude.{Some, None}
use Prim.Native.Nat.{ℕ, zero, suc, ◌+◌, ◌*◌, ◌≤◌, ◌<◌}
use mathlib.Core.Path.{◌≡◌, refl}
use mathlib.Core.Bool.{Bool, true, false, cond, not}
use mathlib.Core.List.{List}
use mathlib.Core.Option.{Option, none, some}
use native.Mathlib.Omega.{arith}
use lib.Dec.{leb, eqb}
use lib.Ieee.{Float, nan, inf, fin, up, down, eq}
use lib.ListN.{length, get_or}
use borrow.Author.Tests.{eq-eqb}
use Rattle.model.specs.declared.Cell.{Cell}
use Rattle.model.specs.declared.CellCoordinate.{CellCoordinate}
use Rattle.model.specs.declared.CellValue.{CellValue}
use Rattle.model.specs.declared.ConditionalOperand.{ConditionalOperand}
use Rattle.model.specs.declared.Outcome.{Outcome}
use Rattle.model.specs.declared.Range.{Range}
use Rattle.model.specs.Options.{Reading, Referenced}
use Rattle.model.specs.declared.Rule.{Rule}
use Rattle.model.specs.declared.Test.{Test}
use Rattle.model.specs.Sheet.{Sheet, CellAt, cell_at, in_range}
use Rattle.model.specs.Readings.{finite, max_wraps, numeric_value, numeric_cell_value, numeric_of, numeric_at, key_at}
use Rattle.model.specs.References.{reference_coordinate, numeric_referenced, literal, resolved}
use Rattle.model.specs.Comparison.{uses_second}
use Rattle.model.specs.Rule.{cells_in, keys, times, on_second, verdict}
use Rattle.model.specs.Run.{outcome}
use Rattle.cells.specs.Columns.{coordinate_at}
use Rattle.hits.specs.Verdict.{first_operand, second_operand, cell_is, by_number, duplicate_values, expression, verdict_on}
use Rattle.hits.specs.Said.{as_float, reading_of}
use Rattle.hits.specs.Hits.{Known, verdict_by, outcome_by, outcomes_by}
use Rattle.turns.specs.Step.{flagged, outcomes_from}
use Rattle.turns.specs.Knowing.{Knows, takes_first, takes_second, counts_keys}
use Rattle.turns.specs.Bands.{BandOf}
use Rattle.turns.proofs.Bands.{within_band}

-- ---- a reading as a float and back

pub reading_back : (x : Float) → finite x ≡ true → reading_of x ≡ Some x
unfolding reading_of finite eq
reading_back nan h = cc
reading_back (inf s) h = cc
reading_back (fin true m e) h = rw (eq-eqb (m * up e * down e) (m * up e * down e) refl)
reading_back (fin false m e) h = rw (eq-eqb (m * up e * down e) (m * up e * down e) refl)

abbrev Back : Reading → Type 0
Back v = reading_of (as_float v) ≡ v

-- a number that is taken only if it is finite
finite_back : (x : Float) → Back (cond (finite x) (Some x) None)
unfolding reading_of as_float eq
finite_back x = go _ refl
  where
    go : (whole : Bool) → finite x ≡ whole → Back (cond whole (Some x) None)
    go true e = reading_back x e
    go false e = refl

pub literal_back : (x : Float) → Back (literal x)
unfolding literal
literal_back x = finite_back x

nothing_back : Back None
unfolding reading_of as_float eq
nothing_back = refl

value_back : (v : CellValue) → Back (numeric_value v)
unfolding numeric_value
value_back (CellValue.Number x) = finite_back x
value_back (CellValue.Date x) = finite_back x
value_back (CellValue.Text t) = nothing_back
value_back (CellValue.Bool b) = nothing_back
value_back CellValue.Error = nothing_back

pub numeric_back : (c : Cell) → Back (numeric_cell_value c)
unfolding numeric_cell_value
numeric_back c = go (leb c.wraps max_wraps)
  where
    go : (read : Bool) → Back (cond read (numeric_value c.value) None)
    go true = value_back c.value
    go false = nothing_back

pub numeric_of_back : (c : Option Cell) → Back (numeric_of c)
numeric_of_back none = nothing_back
numeric_of_back (some c) = numeric_back c

pub numeric_at_back : (cells : List CellAt) (at : CellCoordinate) → Back (numeric_at cells at)
unfolding numeric_at
numeric_at_back cells at = numeric_of_back (cell_at cells at)

referenced_back : (s : Sheet) (at : Referenced) → Back (numeric_referenced s at)
unfolding numeric_referenced
referenced_back s (Some at) = numeric_at_back s.cells at
referenced_back s None = nothing_back

pub resolved_back : (s : Sheet) (range : Range) (at : CellCoordinate) (o : ConditionalOperand) → Back (resolved s range at o)
unfolding resolved
resolved_back s range at (ConditionalOperand.Literal x) = literal_back x
resolved_back s range at (ConditionalOperand.Reference f) = referenced_back s (reference_coordinate s.pool s.name range at f)
resolved_back s range at ConditionalOperand.Unread = nothing_back

-- ---- what a test says of a region

-- both sides compute to the same, test by test
verdict_is : (s : Sheet) (r : Rule) (at : CellCoordinate) (t : Test)
    → verdict s r at t
    ≡ verdict_on t r.imported (numeric_at s.cells at) (resolved s r.range at (first_operand t))
    (resolved s r.range at (second_operand t))
    (times s.pool (key_at s.pool s.cells at) (keys s.pool (cells_in r.range s.cells)))
unfolding verdict verdict_on first_operand second_operand cell_is by_number duplicate_values expression
verdict_is s r at (Test.CellIs op first second fill) = refl
verdict_is s r at (Test.ColorScale2 min max low high) = refl
verdict_is s r at (Test.ColorScale3 min mid max low middle high) = refl
verdict_is s r at (Test.DataBar color low high) = refl
verdict_is s r at (Test.TopBottom bottom bound fill) = refl
verdict_is s r at (Test.AboveAverage below bound fill) = refl
verdict_is s r at (Test.DuplicateValues unique fill) = refl
verdict_is s r at (Test.Expression op left right fill) = refl

second_needed : (uses : Bool) (a b : Reading) → (uses ≡ true → a ≡ b) → (say : Reading → Outcome)
    → on_second uses a say ≡ on_second uses b say
unfolding on_second
second_needed true a b same say = rw (same refl)
second_needed false a b same say = refl

-- operands and a count that are the same where the test looks at them
pub verdict_needs : (t : Test) (imported : Bool) (value a b c d : Reading) (m n : ℕ) → (takes_first t ≡ true → a ≡ b)
    → (takes_second t ≡ true → c ≡ d) → (counts_keys t ≡ true → m ≡ n)
    → verdict_on t imported value a c m ≡ verdict_on t imported value b d n
unfolding verdict_on takes_first takes_second counts_keys cell_is duplicate_values expression
verdict_needs (Test.CellIs op first second fill) imported value a b c d m n one two count =
    rw (one refl) (simp (second_needed (uses_second op) c d two))
verdict_needs (Test.ColorScale2 min max low high) imported value a b c d m n one two count = refl
verdict_needs (Test.ColorScale3 min mid max low middle high) imported value a b c d m n one two count = refl
verdict_needs (Test.DataBar color low high) imported value a b c d m n one two count = refl
verdict_needs (Test.TopBottom bottom bound fill) imported value a b c d m n one two count = refl
verdict_needs (Test.AboveAverage below bound fill) imported value a b c d m n one two count = refl
verdict_needs (Test.DuplicateValues unique fill) imported value a b c d m n one two count = rw (count refl)
verdict_needs (Test.Expression op left right fill) imported value a b c d m n one two count = rw (one refl, two refl)

module _ (s : Sheet) (r : Rule) (t : Test) (rows cols flags : List ℕ) (k : Known) (knows : Knows s r.range t rows cols k) where
  pub verdict_known : (i : ℕ) → i < length rows → in_range r.range (coordinate_at rows cols i) ≡ true
      → verdict_by k t r.imported i ≡ verdict s r (coordinate_at rows cols i) t
  unfolding verdict_by
  verdict_known i h within =
      rw (knows.values i h, verdict_is s r (coordinate_at rows cols i) t)
      (verdict_needs t r.imported _ _ _ _ _ _ _ (λ takes. knows.first takes i h within) (λ takes. knows.second takes i h within)
      (λ counts. knows.found counts i h within))

  -- inside the band of the rule's rows its columns alone decide
  module _ {from to : ℕ} (band : BandOf r.range rows from to) where
    pub outcome_known : (i : ℕ) → from ≤ i → i < to
        → outcome_by k r.range t r.imported cols flags i
        ≡ outcome s r t (coordinate_at rows cols i) (flagged (get_or flags i 0))
    unfolding outcome_by outcome
    outcome_known i a b = rw (← within_band band cols i a b) (go (not (eqb (get_or flags i 0) 0)) _ refl)
      where
        inside : i < length rows
        inside = omega (arith, b, band.within)

        go : (stopped within : Bool) → in_range r.range (coordinate_at rows cols i) ≡ within
            → cond stopped Outcome.Stopped (cond within (verdict_by k t r.imported i) Outcome.Passed)
            ≡ cond stopped Outcome.Stopped (cond within (verdict s r (coordinate_at rows cols i) t) Outcome.Passed)
        go true within e = refl
        go false true e = verdict_known i inside e
        go false false e = refl

    pub outcomes_known : (i n : ℕ) → from ≤ i → i + n ≤ to
        → outcomes_by k r.range t r.imported cols flags i n ≡ outcomes_from s r t rows cols flags i n
    unfolding outcomes_by outcomes_from
    outcomes_known i zero a b = refl
    outcomes_known i (suc n) a b = rw (outcome_known i a (omega arith), outcomes_known (suc i) n (omega arith) (omega arith))
