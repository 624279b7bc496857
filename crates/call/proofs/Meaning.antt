-- What a column has for an operand reads as the operand does, and so does a literal that no column is asked for. Assumes nothing.
use Prim.Native.Nat.{ℕ}
use mathlib.Core.Path.{◌≡◌, refl, ap, ◌∙◌}
use mathlib.Core.Bool.{Bool, true, false, false≢true, ◌&&◌, ◌||◌}
use mathlib.Core.List.{List, [], ◌∷◌}
use types.Run.{OneOf, miss}
use denote.Enum.Declared.{tag_of}
use lib.Ieee.{Float, nan}
use lib.ListN.{length}
use Rattle.model.specs.contracts.Test as test
use Rattle.model.specs.declared.A1Reference.{A1Reference}
use Rattle.model.specs.declared.CellCoordinate.{CellCoordinate}
use Rattle.model.specs.declared.ConditionalOperand.{ConditionalOperand as Operand}
use Rattle.model.specs.declared.Range.{Range}
use Rattle.model.specs.declared.Span.{Span}
use Rattle.model.specs.declared.Test.{Test}
use Rattle.model.specs.Sheet.{Sheet, CellColumns}
use Rattle.model.specs.References.{axis, reference_coordinate, literal, resolved}
use Rattle.cells.specs.Columns.{cells_of, entry_referenced, operand_named, sheet_with}
use Rattle.cells.proofs.Operands.{meant_reference}
use Rattle.hits.specs.Verdict.{first_operand, second_operand}
use Rattle.hits.specs.Said.{as_float, reading_of}
use Rattle.hits.specs.Hits.{is_literal, literal_of, by_literals}
use Rattle.turns.specs.Knowing.{takes_first, takes_second, counts_keys}
use Rattle.turns.proofs.Known.{resolved_back}
use Rattle.laws.proofs.Covered.{and_true}
use Rattle.call.specs.Tables.{number_named, Numbered}
use Rattle.call.proofs.Tables.{number_of_cell}

-- ---- by a column

module _ (s : Sheet) (range : Range) (target : CellCoordinate) where
  pub read_as : (o : Operand) {y : Float} → y ≡ as_float (resolved s range target o) → reading_of y ≡ resolved s range target o
  read_as o e = ap reading_of e ∙ resolved_back s range target o

  pub read_as_literal : (x : Float) {y : Float} → y ≡ as_float (literal x) → reading_of y ≡ resolved s range target (Operand.Literal x)
  unfolding resolved
  read_as_literal x e = read_as (Operand.Literal x) e

  pub read_as_unread : {y : Float} → y ≡ nan → reading_of y ≡ resolved s range target Operand.Unread
  unfolding resolved as_float
  read_as_unread e = read_as Operand.Unread e

-- the number of the cell that a reference means
pub number_referenced : (c : CellColumns) (floats : List Float) → Numbered c floats → length c.rows ≡ length floats
    → (pool : List ℕ) (name : Span) (range : Range) (target : CellCoordinate) (f : A1Reference)
    → number_named floats (entry_referenced c.rows c.cols (reference_coordinate pool name range target f))
    ≡ as_float (resolved (sheet_with (cells_of c) pool name) range target (Operand.Reference f))
unfolding operand_named
number_referenced c floats numbered same pool name range target f =
    number_of_cell c floats numbered same _ ∙ ap as_float (meant_reference c pool name range target f _ refl)

-- one that is absolute in row and column means the same from every target
pub absolute_alike : (s : Sheet) (range : Range) (a b : CellCoordinate) (f : A1Reference)
    → (f.row_absolute && f.col_absolute) ≡ true
    → resolved s range a (Operand.Reference f) ≡ resolved s range b (Operand.Reference f)
unfolding resolved reference_coordinate axis
absolute_alike s range a b f h =
    let both = (and_true f.row_absolute f.col_absolute).0 h in
    rw (both.0, both.1)

-- ---- literals

module _ (s : Sheet) (range : Range) (target : CellCoordinate) where
  literal_resolved : (o : Operand) → is_literal o ≡ true → literal_of o ≡ resolved s range target o
  unfolding is_literal literal_of resolved
  literal_resolved (Operand.Literal x) h = refl
  literal_resolved (Operand.Reference f) h = absurd (false≢true h)
  literal_resolved Operand.Unread h = refl

  -- of a test that compares by them
  pub first_literal : (t : Test) → by_literals t ≡ true → literal_of (first_operand t) ≡ resolved s range target (first_operand t)
  unfolding by_literals first_operand literal_of resolved
  first_literal (Test.CellIs op first second fill) h = literal_resolved first ((and_true (is_literal first) _).0 h).0
  first_literal (Test.ColorScale2 min max low high) h = refl
  first_literal (Test.ColorScale3 min mid max low middle high) h = refl
  first_literal (Test.DataBar color low high) h = refl
  first_literal (Test.TopBottom bottom bound fill) h = refl
  first_literal (Test.AboveAverage below bound fill) h = refl
  first_literal (Test.DuplicateValues unique fill) h = refl
  first_literal (Test.Expression op left right fill) h = absurd (false≢true h)

  pub second_literal : (t : Test) → by_literals t ≡ true → takes_second t ≡ true
      → literal_of (second_operand t) ≡ resolved s range target (second_operand t)
  unfolding by_literals takes_second second_operand literal_of resolved
  second_literal (Test.CellIs op first second fill) h takes =
      literal_resolved second (sole (is_literal second) (rw takes at ((and_true (is_literal first) _).0 h).1))
    where
      sole : (b : Bool) → (b || false) ≡ true → b ≡ true
      sole true e = refl
      sole false e = e
  second_literal (Test.ColorScale2 min max low high) h takes = refl
  second_literal (Test.ColorScale3 min mid max low middle high) h takes = refl
  second_literal (Test.DataBar color low high) h takes = refl
  second_literal (Test.TopBottom bottom bound fill) h takes = refl
  second_literal (Test.AboveAverage below bound fill) h takes = refl
  second_literal (Test.DuplicateValues unique fill) h takes = refl
  second_literal (Test.Expression op left right fill) h takes = absurd (false≢true h)

-- ---- tests besides cell-is and expression

abbrev without_operands : List ℕ
without_operands = 1 ∷ 2 ∷ 3 ∷ 4 ∷ 5 ∷ 6 ∷ []

pub takes_none : (t : Test) → OneOf without_operands (tag_of test.the_type t) → (takes_first t ≡ false) × (takes_second t ≡ false)
unfolding takes_first takes_second
takes_none (Test.CellIs op first second fill) h = absurd (miss without_operands 0 tt h)
takes_none (Test.ColorScale2 min max low high) h = (refl, refl)
takes_none (Test.ColorScale3 min mid max low middle high) h = (refl, refl)
takes_none (Test.DataBar color low high) h = (refl, refl)
takes_none (Test.TopBottom bottom bound fill) h = (refl, refl)
takes_none (Test.AboveAverage below bound fill) h = (refl, refl)
takes_none (Test.DuplicateValues unique fill) h = (refl, refl)
takes_none (Test.Expression op left right fill) h = absurd (miss without_operands 7 tt h)

-- ---- tests that count no keys

abbrev without_keys : List ℕ
without_keys = 0 ∷ 1 ∷ 2 ∷ 3 ∷ 4 ∷ 5 ∷ 7 ∷ []

pub counts_none : (t : Test) → OneOf without_keys (tag_of test.the_type t) → counts_keys t ≡ false
unfolding counts_keys
counts_none (Test.CellIs op first second fill) h = refl
counts_none (Test.ColorScale2 min max low high) h = refl
counts_none (Test.ColorScale3 min mid max low middle high) h = refl
counts_none (Test.DataBar color low high) h = refl
counts_none (Test.TopBottom bottom bound fill) h = refl
counts_none (Test.AboveAverage below bound fill) h = refl
counts_none (Test.DuplicateValues unique fill) h = absurd (miss without_keys 6 tt h)
counts_none (Test.Expression op left right fill) h = refl
