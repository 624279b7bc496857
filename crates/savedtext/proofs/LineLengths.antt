-- How long the lines of a lent job's text are at most, whatever its numbers are, by the size of its pool: a decimal has at most 20 digits,
-- a text two for each byte. Assumes nothing.
use Rattle.std.specs.Prelude.{Some, None}
use Prim.Native.Nat.{ℕ, zero, suc, ◌+◌, ◌*◌, ◌≤◌}
use native.Mathlib.Omega.{arith}
use mathlib.Core.Path.{◌≡◌}
use mathlib.Core.Bool.{Bool, true, false, cond}
use mathlib.Core.List.{List, [], ◌∷◌, map}
use lib.Dec.{eqb}
use lib.Ieee.{binary64, to_bits}
use lib.ListN.{length, get_or, length-append, length-take, length-drop}
use Rattle.model.specs.declared.A1Reference.{A1Reference}
use Rattle.model.specs.declared.CellCoordinate.{CellCoordinate}
use Rattle.model.specs.declared.CfRule.{CfRule}
use Rattle.model.specs.declared.ConditionalComparison.{ConditionalComparison}
use Rattle.model.specs.declared.ConditionalOperand.{ConditionalOperand}
use Rattle.model.specs.declared.DvOp.{DvOp}
use Rattle.model.specs.Options.{Priority, SheetName}
use Rattle.model.specs.declared.Rgb.{Rgb}
use Rattle.model.specs.declared.Rule.{Rule}
use Rattle.model.specs.declared.Span.{Span}
use Rattle.model.specs.Comparison.{uses_second}
use Rattle.model.specs.Readings.{finite}
use Rattle.model.specs.Sheet.{CellColumns, text_at}
use Rattle.grammar.specs.Parts.{bytes, times_text, either}
use Rattle.grammar.proofs.Hexadecimals.{length_digits}
use Rattle.jobtext.specs.Written.{Value, Operand}
use Rattle.jobtext.specs.Fields as Fields
use Rattle.jobtext.specs.Rules as Rules
use Rattle.jobtext.specs.Text as Text
use Rattle.jobtext.specs.Said.{value_said, cell_said, cells_said, name_said, reference_said, literal_said, operand_said, kind_said, rule_said}
use Rattle.grammar.proofs.Pairs.{length_pairs}
use Rattle.reporttext.proofs.Longest.{Most, number_most, joined}

-- ---- a number of texts

abbrev pub Each : {A : Type 0} → (A → List ℕ) → ℕ → List A → Type 0
Each t n [] = Unit {0}
Each t n (x ∷ xs) = Most n (t x) × Each t n xs

pub times_most : {A : Type 0} (t : A → List ℕ) (n : ℕ) (xs : List A) → Each t n xs → Most (n * length xs) (times_text t xs)
unfolding times_text
times_most t n [] h = record { bytes = omega arith }
times_most t n (x ∷ xs) h =
    let more : n + n * length xs ≡ n * suc (length xs) = omega arith in
    rw more at (joined h.0 (times_most t n xs h.1))

-- ---- texts, colours and bits

-- a text of the pool, with the byte ahead of it and the one that ends it
pub text_most : (end : ℕ) (bs : List ℕ) → length bs ≤ 65_536 → Most 131_074 ((Fields.text_field end).text bs)
unfolding Fields.text_field bytes
text_most end bs h = record { bytes = simp length-append (omega (arith, length_pairs bs)) }

colour_most : (end : List ℕ) (n : ℕ) (c : Rgb) → length end ≤ n → Most (6 + n) ((Fields.colour end).text c)
unfolding Fields.colour
colour_most end n c h =
    record {
      bytes = simp length-append (omega (arith, length_digits 2 c.red, length_digits 2 c.green, length_digits 2 c.blue));
    }

bits_most : (n : ℕ) → Most 17 ((Fields.bits_line).text n)
unfolding bytes
bits_most n = record { bytes = simp length-append (omega (arith, length_digits 16 n)) }

-- ---- lines

either_most : (w v : List ℕ) (n : ℕ) → length w ≤ n → length v ≤ n → (b : Bool) → Most n ((either w v).text b)
either_most w v n h k false = record { bytes = omega (arith, length-append w []) }
either_most w v n h k true = record { bytes = k }

priority_most : (p : Priority) → Most 21 ((Fields.priority).text p)
unfolding Fields.priority bytes
priority_most None = record { bytes = omega arith }
priority_most (Some n) = number_most 32 n

scale2_most : (min max : Rgb) → Most 18 ((Rules.scale2).text (min, max))
unfolding Rules.scale2 bytes
scale2_most min max = joined (colour_most _ 1 min (omega arith)) (colour_most _ 5 max (omega arith))

scale3_most : (min mid max : Rgb) → Most 23 ((Rules.scale3).text (min, (mid, max)))
unfolding Rules.scale3 bytes
scale3_most min mid max =
    joined (colour_most _ 1 min (omega arith)) (joined (colour_most _ 1 mid (omega arith)) (colour_most _ 3 max (omega arith)))

bar_most : (c : Rgb) → Most 13 ((Rules.bar).text c)
unfolding Rules.bar bytes
bar_most c = colour_most _ 7 c (omega arith)

rank_most : (number : ℕ) (bottom percent : Bool) (fill : Rgb) → Most 43 ((Rules.rank).text (number, (bottom, (percent, fill))))
unfolding Rules.rank bytes
rank_most number bottom percent fill =
    joined (number_most 32 number)
    (joined (either_most (bytes "top ") (bytes "bottom ") 7 (omega arith) (omega arith) bottom)
    (joined (either_most (bytes "count ") (bytes "percent ") 8 (omega arith) (omega arith) percent) (colour_most _ 1 fill (omega arith))))

mean_most : (below : Bool) (fill : Rgb) → Most 17 ((Rules.mean).text (below, fill))
unfolding Rules.mean bytes
mean_most below fill =
    joined (either_most (bytes "above - - ") (bytes "below - - ") 10 (omega arith) (omega arith) below) (colour_most _ 1 fill (omega arith))

same_most : (unique : Bool) (fill : Rgb) → Most 21 ((Rules.same).text (unique, fill))
unfolding Rules.same bytes
same_most unique fill =
    joined (either_most (bytes "duplicate - - ") (bytes "unique - - ") 14 (omega arith) (omega arith) unique)
    (colour_most _ 1 fill (omega arith))

module _ (pool : List ℕ) (few : length pool ≤ 65_536) where
  pub length_text : (s : Span) → length (text_at pool s) ≤ 65_536
  unfolding text_at
  length_text s = simp (length-take, length-drop) (omega arith)

  value_most : (kind bits at len : ℕ) → Most 131_074 ((Fields.value).text (value_said pool kind bits at len))
  unfolding value_said Fields.value Fields.text_field bytes
  value_most kind bits at len = go (eqb kind 1) (eqb kind 2) (eqb kind 3) (eqb kind 4)
    where
      go : (x y z w : Bool)
          → Most 131_074 ((Fields.value).text
          (cond x (Value.number bits)
          (cond y (Value.date bits)
          (cond z (Value.text (text_at pool (record { at = at; len = len }))) (cond w (Value.bool (eqb len 1)) Value.error)))))
      go true y z w = record { bytes = omega (arith, (bits_most bits).bytes) }
      go false true z w = record { bytes = omega (arith, (bits_most bits).bytes) }
      go false false true w = text_most 10 (text_at pool (record { at = at; len = len })) (length_text (record { at = at; len = len }))
      go false false false true = bool (eqb len 1)
        where
          bool : (b : Bool) → Most 131_074 ((Fields.value).text (Value.bool b))
          bool false = record { bytes = omega arith }
          bool true = record { bytes = omega arith }
      go false false false false = record { bytes = omega arith }

  cell_most : (c : CellColumns) (i : ℕ) → Most 131_137 ((Text.cell_line).text (cell_said pool c i))
  unfolding Text.cell_line cell_said
  cell_most c i =
      joined (number_most 32 (get_or c.rows i 0)) (
      joined (number_most 32 (get_or c.cols i 0)) (
      joined (number_most 32 (get_or c.wraps i 0))
      (value_most (get_or c.kinds i 0) (get_or c.nums i 0) (get_or c.ats i 0) (get_or c.lens i 0))))

  pub cells_each : (c : CellColumns) (i n : ℕ) → Each (Text.cell_line).text 131_137 (cells_said pool c i n)
  unfolding cells_said
  cells_each c i zero = tt
  cells_each c i (suc n) = (cell_most c i, cells_each c (suc i) n)

  name_most : (n : SheetName) → Most 131_074 ((Fields.reference_name).text (name_said pool n))
  unfolding Fields.reference_name name_said bytes
  name_most None = record { bytes = omega arith }
  name_most (Some s) = text_most 32 (text_at pool s) (length_text s)

  reference_most : (r : A1Reference) → Most 131_137 ((Fields.reference).text (reference_said pool r))
  unfolding Fields.reference reference_said
  reference_most r =
      joined (number_most 44 r.row) (joined (number_most 44 r.col) (joined (number_most 44 _) (name_most r.sheet)))

  operand_most : (o : ConditionalOperand) → Most 131_138 ((Fields.operand).text (operand_said pool o))
  unfolding Fields.operand operand_said literal_said bytes
  operand_most (ConditionalOperand.Literal x) = go (finite x)
    where
      go : (b : Bool) → Most 131_138 ((Fields.operand).text (cond b (Operand.literal (to_bits binary64 x)) Operand.unread))
      go true = record { bytes = simp length-append (omega (arith, length_digits 16 (to_bits binary64 x))) }
      go false = record { bytes = omega arith }
  operand_most (ConditionalOperand.Reference r) = record { bytes = omega (arith, (reference_most r).bytes) }
  operand_most ConditionalOperand.Unread = record { bytes = omega arith }

  second_most : (b : Bool) (o : ConditionalOperand)
      → Most 131_138 ((Rules.second_if b).text (cond b (operand_said pool o) Operand.unread))
  unfolding bytes
  second_most true o = operand_most o
  second_most false o = record { bytes = omega arith }

  cell_is_most : (op : DvOp) (first second : ConditionalOperand) (fill : Rgb)
      → Most 262_304 ((Rules.cell_is).text
      (op, (operand_said pool first, (cond (uses_second op) (operand_said pool second) Operand.unread, fill))))
  unfolding Rules.cell_is Fields.dv_op bytes
  cell_is_most op first second fill =
      joined (number_most 32 _)
      (joined (operand_most first) (joined (second_most (uses_second op) second) (colour_most _ 1 fill (omega arith))))

  expr_most : (op : ConditionalComparison) (left right : ConditionalOperand) (fill : Rgb)
      → Most 262_304 ((Rules.expr).text (op, (operand_said pool left, (operand_said pool right, fill))))
  unfolding Rules.expr Fields.comparison bytes
  expr_most op left right fill =
      joined (number_most 32 _) (joined (operand_most left) (joined (operand_most right) (colour_most _ 1 fill (omega arith))))

  kind_most : (k : CfRule) → Most 262_311 ((Rules.kind).text (kind_said pool k))
  unfolding Rules.kind kind_said bytes
  kind_most (CfRule.CellIs op first second fill) = record { bytes = omega (arith, (cell_is_most op first second fill).bytes) }
  kind_most (CfRule.ColorScale2 min max) = record { bytes = omega (arith, (scale2_most min max).bytes) }
  kind_most (CfRule.ColorScale3 min mid max) = record { bytes = omega (arith, (scale3_most min mid max).bytes) }
  kind_most (CfRule.DataBar color) = record { bytes = omega (arith, (bar_most color).bytes) }
  kind_most (CfRule.TopBottom rank bottom percent fill) = record { bytes = omega (arith, (rank_most rank bottom percent fill).bytes) }
  kind_most (CfRule.AboveAverage below fill) = record { bytes = omega (arith, (mean_most below fill).bytes) }
  kind_most (CfRule.DuplicateValues unique fill) = record { bytes = omega (arith, (same_most unique fill).bytes) }
  kind_most (CfRule.Expression op left right fill) = record { bytes = omega (arith, (expr_most op left right fill).bytes) }

  rule_most : (r : Rule) → Most 262_420 ((Rules.rule_line).text (rule_said pool r))
  unfolding Rules.rule_line rule_said bytes
  rule_most r =
      let flag : (b : Bool) → Most 2 ((Fields.flag).text b) = either_most (bytes "0 ") (bytes "1 ") 2 (omega arith) (omega arith) in
      joined (number_most 32 r.range.top) (
      joined (number_most 32 r.range.left) (
      joined (number_most 32 r.range.bottom) (
      joined (number_most 32 r.range.right) (
      joined (priority_most r.priority) (joined (flag r.stop) (joined (flag r.imported) (kind_most r.kind)))))))

  pub rules_each : (rs : List Rule) → Each (Rules.rule_line).text 262_420 (map (rule_said pool) rs)
  rules_each [] = tt
  rules_each (r ∷ rs) = (rule_most r, rules_each rs)

pub regions_each : (rs : List CellCoordinate) → Each (Text.region_line).text 42 rs
unfolding Text.region_line
regions_each [] = tt
regions_each (r ∷ rs) = (joined (number_most 32 r.row) (number_most 10 r.col), regions_each rs)
