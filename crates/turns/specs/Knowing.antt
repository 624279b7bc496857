-- What is known of the regions is what the sheet has: the number of each region's cell, and, of a region in range, what the operands of
-- the test read as from it and how many cells in range have its key, as far as the test looks at these. Assumes nothing.
use Rattle.std.specs.Prelude.{ℕ, ◌<◌, ◌≡◌, Bool, true, false, List, length, get_or}
use Rattle.model.specs.declared.Range.{Range}
use Rattle.model.specs.declared.Test.{Test}
use Rattle.model.specs.Sheet.{Sheet, in_range}
use Rattle.model.specs.Readings.{numeric_at, key_at}
use Rattle.model.specs.References.{resolved}
use Rattle.model.specs.Comparison.{uses_second}
use Rattle.model.specs.Rule.{cells_in, keys, times}
use Rattle.cells.specs.Columns.{coordinate_at}
use Rattle.hits.specs.Verdict.{first_operand, second_operand}
use Rattle.hits.specs.Hits.{Known, number_at, first_at, second_at}

unfoldable pub takes_first : Test → Bool
takes_first (Test.CellIs op first second fill) = true
takes_first (Test.ColorScale2 min max low high) = false
takes_first (Test.ColorScale3 min mid max low middle high) = false
takes_first (Test.DataBar color low high) = false
takes_first (Test.TopBottom bottom bound fill) = false
takes_first (Test.AboveAverage below bound fill) = false
takes_first (Test.DuplicateValues unique fill) = false
takes_first (Test.Expression op left right fill) = true

unfoldable pub takes_second : Test → Bool
takes_second (Test.CellIs op first second fill) = uses_second op
takes_second (Test.ColorScale2 min max low high) = false
takes_second (Test.ColorScale3 min mid max low middle high) = false
takes_second (Test.DataBar color low high) = false
takes_second (Test.TopBottom bottom bound fill) = false
takes_second (Test.AboveAverage below bound fill) = false
takes_second (Test.DuplicateValues unique fill) = false
takes_second (Test.Expression op left right fill) = true

unfoldable pub counts_keys : Test → Bool
counts_keys (Test.CellIs op first second fill) = false
counts_keys (Test.ColorScale2 min max low high) = false
counts_keys (Test.ColorScale3 min mid max low middle high) = false
counts_keys (Test.DataBar color low high) = false
counts_keys (Test.TopBottom bottom bound fill) = false
counts_keys (Test.AboveAverage below bound fill) = false
counts_keys (Test.DuplicateValues unique fill) = true
counts_keys (Test.Expression op left right fill) = false

-- something is so of each region in range
abbrev pub InRange : Range → List ℕ → List ℕ → (ℕ → Type 0) → Type 0
InRange range rows cols so = (i : ℕ) → i < length rows → in_range range (coordinate_at rows cols i) ≡ true → so i

pub record Knows (s : Sheet) (range : Range) (t : Test) (rows cols : List ℕ) (k : Known) : Type 0 where
  pub values : (i : ℕ) → i < length rows → number_at k.values i ≡ numeric_at s.cells (coordinate_at rows cols i)
  pub first : takes_first t ≡ true
      → InRange range rows cols (λ i. first_at k t i ≡ resolved s range (coordinate_at rows cols i) (first_operand t))
  pub second : takes_second t ≡ true
      → InRange range rows cols (λ i. second_at k t i ≡ resolved s range (coordinate_at rows cols i) (second_operand t))
  pub found : counts_keys t ≡ true
      → InRange range rows cols (λ i. get_or k.founds i 0
      ≡ times s.pool (key_at s.pool s.cells (coordinate_at rows cols i)) (keys s.pool (cells_in range s.cells)))
