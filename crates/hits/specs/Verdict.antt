-- What a rule says of a region in range, by plain values alone: the number of the region's cell, the numbers of the test's two operands,
-- and how many cells in range have the same key (document 01, 'Rules'). Assumes nothing.
use Rattle.std.specs.Prelude.{ℕ, Bool, cond, ltb, eqb, Float}
use Rattle.std.specs.Float.Ieee.{lt, le}
use Rattle.model.specs.declared.ConditionalComparison.{ConditionalComparison}
use Rattle.model.specs.declared.ConditionalOperand.{ConditionalOperand}
use Rattle.model.specs.declared.DvOp.{DvOp}
use Rattle.model.specs.declared.Outcome.{Outcome}
use Rattle.model.specs.Options.{Reading}
use Rattle.model.specs.declared.Rgb.{Rgb}
use Rattle.model.specs.declared.Test.{Test}
use Rattle.model.specs.Comparison.{uses_second, compare_conditional, compare}
use Rattle.model.specs.Ratio.{normalized}
use Rattle.model.specs.Rule.{scaled, barred, filled_if, on_value, on_operand, on_second}

-- ---- the operands of a test

unfoldable pub first_operand : Test → ConditionalOperand
first_operand (Test.CellIs op first second fill) = first
first_operand (Test.ColorScale2 min max low high) = ConditionalOperand.Unread
first_operand (Test.ColorScale3 min mid max low middle high) = ConditionalOperand.Unread
first_operand (Test.DataBar color low high) = ConditionalOperand.Unread
first_operand (Test.TopBottom bottom bound fill) = ConditionalOperand.Unread
first_operand (Test.AboveAverage below bound fill) = ConditionalOperand.Unread
first_operand (Test.DuplicateValues unique fill) = ConditionalOperand.Unread
first_operand (Test.Expression op left right fill) = left

unfoldable pub second_operand : Test → ConditionalOperand
second_operand (Test.CellIs op first second fill) = second
second_operand (Test.ColorScale2 min max low high) = ConditionalOperand.Unread
second_operand (Test.ColorScale3 min mid max low middle high) = ConditionalOperand.Unread
second_operand (Test.DataBar color low high) = ConditionalOperand.Unread
second_operand (Test.TopBottom bottom bound fill) = ConditionalOperand.Unread
second_operand (Test.AboveAverage below bound fill) = ConditionalOperand.Unread
second_operand (Test.DuplicateValues unique fill) = ConditionalOperand.Unread
second_operand (Test.Expression op left right fill) = right

-- ---- what a test says

-- the cell is read ahead of the operands, and the second operand only if the operator uses it
unfoldable pub cell_is : DvOp → Rgb → Bool → Reading → Reading → Reading → Outcome
cell_is op fill imported value first second =
    on_value value (λ x.
    on_operand first (λ a.
    on_second (uses_second op) second (λ b. filled_if (compare_conditional x op a b) imported fill)))

-- scales, bars, rank and average, by the cell's number; the other tests need more and are not asked here
unfoldable pub by_number : Test → Bool → Float → Outcome
by_number (Test.CellIs op first second fill) imported x = Outcome.Passed
by_number (Test.ColorScale2 min max low high) imported x = scaled imported 0 min max (normalized x low high)
by_number (Test.ColorScale3 min mid max low middle high) imported x =
    cond (le x middle) (scaled imported 0 min mid (normalized x low middle)) (scaled imported 3 mid max (normalized x middle high))
by_number (Test.DataBar color low high) imported x = barred imported color (normalized x low high)
by_number (Test.TopBottom bottom bound fill) imported x = filled_if (cond bottom (le x bound) (le bound x)) imported fill
by_number (Test.AboveAverage below bound fill) imported x = filled_if (cond below (lt x bound) (lt bound x)) imported fill
by_number (Test.DuplicateValues unique fill) imported x = Outcome.Passed
by_number (Test.Expression op left right fill) imported x = Outcome.Passed

unfoldable pub duplicate_values : Bool → Rgb → Bool → ℕ → Outcome
duplicate_values unique fill imported found = filled_if (cond unique (eqb found 1) (ltb 1 found)) imported fill

-- for any cell, a blank one too
unfoldable pub expression : ConditionalComparison → Rgb → Bool → Reading → Reading → Outcome
expression op fill imported left right = on_operand left (λ a. on_operand right (λ b. filled_if (compare op a b) imported fill))

-- of the test, the imported-style flag, the number of the region's cell, those of the operands, and how many cells in range have its key;
-- the operands that a test holds are not looked at here
unfoldable pub verdict_on : Test → Bool → Reading → Reading → Reading → ℕ → Outcome
verdict_on (Test.CellIs op p q fill) imported value first second found = cell_is op fill imported value first second
verdict_on (Test.ColorScale2 min max low high) imported value first second found =
    on_value value (by_number (Test.ColorScale2 min max low high) imported)
verdict_on (Test.ColorScale3 min mid max low middle high) imported value first second found =
    on_value value (by_number (Test.ColorScale3 min mid max low middle high) imported)
verdict_on (Test.DataBar color low high) imported value first second found = on_value value (by_number (Test.DataBar color low high) imported)
verdict_on (Test.TopBottom bottom bound fill) imported value first second found =
    on_value value (by_number (Test.TopBottom bottom bound fill) imported)
verdict_on (Test.AboveAverage below bound fill) imported value first second found =
    on_value value (by_number (Test.AboveAverage below bound fill) imported)
verdict_on (Test.DuplicateValues unique fill) imported value first second found = duplicate_values unique fill imported found
verdict_on (Test.Expression op p q fill) imported value first second found = expression op fill imported first second
