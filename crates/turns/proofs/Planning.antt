-- The values of a range have room where there is room for a value of each cell, and are the front of a page of them; what a rule by
-- operands comes to; and tests that are not of a bar. Assumes nothing.
use Rattle.std.specs.Prelude.{Some, None}
use Prim.Native.Nat.{ℕ, suc, ◌≤◌}
use native.Mathlib.Omega.{arith}
use mathlib.Core.Path.{◌≡◌, refl, sym, ap, ◌∙◌}
use mathlib.Core.Bool.{Bool, true, false, cond, false≢true}
use mathlib.Core.List.{List, [], ◌∷◌}
use lib.Ieee.{Float}
use lib.ListN.{length, take}
use lib.Seq.{take_at}
use types.Run.{OneOf, miss}
use denote.Enum.Declared.{tag_of}
use Rattle.memory.specs.Memory.{page_or}
use Rattle.memory.proofs.Laws.{page_fits}
use Rattle.model.specs.contracts.CfRule as CfRule-type
use Rattle.model.specs.contracts.Test as Test-type
use Rattle.model.specs.declared.CfRule.{CfRule}
use Rattle.model.specs.declared.Range.{Range}
use Rattle.model.specs.Options.{Reading}
use Rattle.model.specs.declared.Test.{Test}
use Rattle.model.specs.Ratio.{zero_f}
use Rattle.model.specs.Sheet.{Sheet, CellAt, CellColumns, in_range}
use Rattle.model.specs.Readings.{numeric_cell_value}
use Rattle.model.specs.Rule.{cells_in, with_number, numbers, plan_of}
use Rattle.cells.specs.Columns.{cells_of}
use Rattle.cells.proofs.Laws.{cells_length}
use Rattle.plans.specs.Plans.{takes_values, plan_of_operands, is_bar_test}
use Rattle.turns.proofs.Charges.{without_keys}

-- ---- the values of a range

number_few : (x : Reading) (xs : List Float) → length (with_number x xs) ≤ suc (length xs)
number_few (Some x) xs = omega arith
number_few None xs = omega arith

numbers_few : (cs : List CellAt) → length (numbers cs) ≤ length cs
unfolding numbers
numbers_few [] = omega arith
numbers_few (c ∷ cs) = omega (arith, numbers_few cs, number_few (numeric_cell_value c.cell) (numbers cs))

cells_few : (range : Range) (cs : List CellAt) → length (cells_in range cs) ≤ length cs
unfolding cells_in
cells_few range [] = omega arith
cells_few range (c ∷ cs) = go (in_range range c.at) (cells_in range cs) (cells_few range cs)
  where
    go : (b : Bool) (later : List CellAt) → length later ≤ length cs → length (cond b (c ∷ later) later) ≤ suc (length cs)
    go true later h = omega arith
    go false later h = omega arith

pub values_few : (range : Range) (c : CellColumns) → length (numbers (cells_in range (cells_of c))) ≤ length c.rows
values_few range c =
    omega
    (arith, numbers_few (cells_in range (cells_of c)), cells_few range (cells_of c), cells_length c 0 (length c.rows))

-- numbers that fit are the front of a page
pub page_front : (n count : ℕ) (l xs : List Float) → l ≡ page_or zero_f true n xs → count ≡ length xs → count ≤ n → take count l ≡ xs
page_front n count l xs is counted fits =
    ap (take count) (is ∙ page_fits zero_f n xs (omega (arith, counted))) ∙ take_at xs _ count (sym counted)

-- ---- by operands

module _ (s : Sheet) (range : Range) where
  pub plan_of_operands_is : (k : CfRule) → OneOf without_keys (tag_of CfRule-type.the_type k) → takes_values k ≡ false → plan_of s range k ≡ plan_of_operands k
  unfolding takes_values plan_of plan_of_operands
  plan_of_operands_is (CfRule.CellIs op first second fill) h v = refl
  plan_of_operands_is (CfRule.ColorScale2 min max) h v = absurd (false≢true (sym v))
  plan_of_operands_is (CfRule.ColorScale3 min mid max) h v = absurd (false≢true (sym v))
  plan_of_operands_is (CfRule.DataBar color) h v = absurd (false≢true (sym v))
  plan_of_operands_is (CfRule.TopBottom number bottom percent fill) h v = absurd (false≢true (sym v))
  plan_of_operands_is (CfRule.AboveAverage below fill) h v = absurd (false≢true (sym v))
  plan_of_operands_is (CfRule.DuplicateValues unique fill) h v = absurd (miss without_keys 6 tt h)
  plan_of_operands_is (CfRule.Expression op left right fill) h v = refl

-- ---- tests besides a bar, in the order of `Test`

abbrev without_bars : List ℕ
without_bars = 0 ∷ 1 ∷ 2 ∷ 4 ∷ 5 ∷ 6 ∷ 7 ∷ []

pub no_bar_test : (t : Test) → OneOf without_bars (tag_of Test-type.the_type t) → is_bar_test t ≡ false
unfolding is_bar_test
no_bar_test (Test.CellIs op first second fill) h = refl
no_bar_test (Test.ColorScale2 min max low high) h = refl
no_bar_test (Test.ColorScale3 min mid max low middle high) h = refl
no_bar_test (Test.DataBar color low high) h = absurd (miss without_bars 3 tt h)
no_bar_test (Test.TopBottom bottom bound fill) h = refl
no_bar_test (Test.AboveAverage below bound fill) h = refl
no_bar_test (Test.DuplicateValues unique fill) h = refl
no_bar_test (Test.Expression op left right fill) h = refl
