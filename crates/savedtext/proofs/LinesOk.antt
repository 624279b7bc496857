-- Each line of what a job of the declared types says has a text, its cells and regions being well-formed. Assumes nothing.
use Rattle.std.specs.Prelude.{Some, None}
use Prim.Native.Nat.{ℕ, zero, suc, ◌<◌}
use native.Mathlib.Omega.{arith}
use mathlib.Core.Path.{◌≡◌, refl}
use mathlib.Core.Bool.{Bool, true, false, cond}
use mathlib.Core.List.{List, [], ◌∷◌, map}
use lib.Dec.{T, eqb}
use lib.Ieee.{Float, binary64, to_bits, fits}
use lib.Ieee.Bits.{of_bits-to_bits, to_bits-lt}
use lib.ListN.{length, take, drop, get_or}
use Rattle.model.specs.declared.A1Reference.{A1Reference}
use Rattle.model.specs.declared.CfRule.{CfRule}
use Rattle.model.specs.declared.ConditionalComparison.{ConditionalComparison}
use Rattle.model.specs.declared.ConditionalOperand.{ConditionalOperand}
use Rattle.model.specs.declared.DvOp.{DvOp}
use Rattle.model.specs.Options.{Priority, SheetName}
use Rattle.model.specs.declared.Rgb.{Rgb}
use Rattle.model.specs.declared.Rule.{Rule}
use Rattle.model.specs.declared.Span.{Span}
use Rattle.model.specs.Comparison.{uses_second}
use Rattle.model.specs.Readings.{finite}
use Rattle.model.specs.Sheet.{CellColumns, text_at}
use Rattle.grammar.specs.Parts.{bytes, times_ok, either}
use Rattle.grammar.specs.Numbers.{sixteens, are_bytes}
use Rattle.jobtext.specs.Written.{Value, Operand}
use Rattle.jobtext.specs.Fields.{
  text_field,
  value,
  absolute,
  reference_name,
  reference,
  finite_bits,
  operand,
  dv_op,
  comparison,
  colour,
  priority,
}
use Rattle.jobtext.specs.Rules.{second_if, cell_is, scale2, scale3, bar, rank, mean, same, expr, kind, rule_line}
use Rattle.jobtext.specs.Text.{cell_line, region_line}
use Rattle.jobtext.specs.Said.{value_said, cell_said, name_said, reference_said, literal_said, operand_said, kind_said, rule_said}
use Rattle.savedtext.specs.Typed.{Width, TypedColour, TypedPriority, TypedReference, TypedOperand, TypedKind, TypedRule, TypedRules}
use Rattle.savedtext.proofs.Listed.{region_of}
use Rattle.savedtext.proofs.Formed.{OnGrid, FormedCell}

-- ---- bytes

pub bytes_width : (xs : List ℕ) → Width 8 xs → are_bytes xs
bytes_width [] w = tt
bytes_width (x ∷ xs) w = (w 0, bytes_width xs (λ i. w (suc i)))

bytes_drop : (n : ℕ) (xs : List ℕ) → are_bytes xs → are_bytes (drop n xs)
bytes_drop zero xs b = b
bytes_drop (suc n) [] b = tt
bytes_drop (suc n) (x ∷ xs) b = bytes_drop n xs b.1

bytes_take : (n : ℕ) (xs : List ℕ) → are_bytes xs → are_bytes (take n xs)
bytes_take zero xs b = tt
bytes_take (suc n) [] b = tt
bytes_take (suc n) (x ∷ xs) b = (b.0, bytes_take n xs b.1)

-- ---- fields

either_ok : (w v : List ℕ) (b : Bool) → (either w v).Ok b
either_ok w v true = tt
either_ok w v false = tt

absolute_ok : (a b : Bool) → absolute.Ok (a, b)
absolute_ok true true = omega arith
absolute_ok true false = omega arith
absolute_ok false true = omega arith
absolute_ok false false = omega arith

colour_ok : (end : List ℕ) (c : Rgb) → TypedColour c → (colour end).Ok c
unfolding colour sixteens
colour_ok end c t = (t.red, (t.green, t.blue))

priority_ok : (p : Priority) → TypedPriority p → priority.Ok p
unfolding priority
priority_ok (Some n) t = omega arith
priority_ok None t = tt

dv_op_ok : (op : DvOp) → dv_op.Ok op
unfolding dv_op
dv_op_ok DvOp.Between = omega arith
dv_op_ok DvOp.NotBetween = omega arith
dv_op_ok DvOp.Equal = omega arith
dv_op_ok DvOp.NotEqual = omega arith
dv_op_ok DvOp.GreaterThan = omega arith
dv_op_ok DvOp.LessThan = omega arith
dv_op_ok DvOp.GreaterThanOrEqual = omega arith
dv_op_ok DvOp.LessThanOrEqual = omega arith

comparison_ok : (op : ConditionalComparison) → comparison.Ok op
unfolding comparison
comparison_ok ConditionalComparison.Equal = omega arith
comparison_ok ConditionalComparison.NotEqual = omega arith
comparison_ok ConditionalComparison.Less = omega arith
comparison_ok ConditionalComparison.LessOrEqual = omega arith
comparison_ok ConditionalComparison.Greater = omega arith
comparison_ok ConditionalComparison.GreaterOrEqual = omega arith

module _ (pool : List ℕ) (pooled : are_bytes pool) where
  pub text_ok : (s : Span) → are_bytes (text_at pool s)
  unfolding text_at
  text_ok s = bytes_take s.len (drop s.at pool) (bytes_drop s.at pool pooled)

  -- ---- cells

  value_ok : (kind bits at len : ℕ) → bits < sixteens 16 → value.Ok (value_said pool kind bits at len)
  unfolding value value_said
  value_ok kind bits at len h = by (eqb kind 1) (eqb kind 2) (eqb kind 3) (eqb kind 4)
    where
      by : (number date text bool : Bool)
          → value.Ok
          (cond number (Value.number bits)
          (cond date (Value.date bits)
          (cond text (Value.text (text_at pool (record { at = at; len = len }))) (cond bool (Value.bool (eqb len 1)) Value.error))))
      by true date text bool = h
      by false true text bool = h
      by false false true bool = text_ok (record { at = at; len = len })
      by false false false true = either_ok (bytes "0\n") (bytes "1\n") (eqb len 1)
      by false false false false = tt

  pub cell_ok : (c : CellColumns) (i : ℕ) → FormedCell c i → Width 8 c.wraps → Width 64 c.nums → cell_line.Ok (cell_said pool c i)
  unfolding cell_line cell_said sixteens
  cell_ok c i f w n =
      let wraps = w i in
      let value = value_ok (get_or c.kinds i 0) (get_or c.nums i 0) (get_or c.ats i 0) (get_or c.lens i 0) (n i) in
      (omega (arith, f.place.row), (omega (arith, f.place.col), (omega arith, value)))

  -- ---- operands

  name_ok_lem : (n : SheetName) → reference_name.Ok (name_said pool n)
  unfolding reference_name name_said text_field
  name_ok_lem None = tt
  name_ok_lem (Some s) = text_ok s

  reference_ok : (r : A1Reference) → TypedReference r → reference.Ok (reference_said pool r)
  unfolding reference reference_said
  reference_ok r t = (
    omega (arith, t.row),
    (omega (arith, t.col), (absolute_ok r.row_absolute r.col_absolute, name_ok_lem r.sheet)),
  )

  literal_ok : (x : Float) → T (fits binary64 x) → operand.Ok (literal_said pool x)
  unfolding literal_said operand finite_bits sixteens
  literal_ok x t = go (finite x) refl
    where
      go : (b : Bool) → finite x ≡ b → operand.Ok (cond b (Operand.literal (to_bits binary64 x)) Operand.unread)
      go true e = (to_bits-lt binary64 x t, rw (of_bits-to_bits binary64 x t, e) tt)
      go false e = tt

  operand_ok : (o : ConditionalOperand) → TypedOperand o → operand.Ok (operand_said pool o)
  unfolding operand_said operand
  operand_ok (ConditionalOperand.Literal x) t = literal_ok x t
  operand_ok (ConditionalOperand.Reference r) t = reference_ok r t
  operand_ok ConditionalOperand.Unread t = tt

  second_ok : (b : Bool) (o : ConditionalOperand) → TypedOperand o
      → (second_if b).Ok (cond b (operand_said pool o) Operand.unread)
  second_ok true o t = operand_ok o t
  second_ok false o t = refl

  -- ---- rules

  kind_ok : (k : CfRule) → TypedKind k → kind.Ok (kind_said pool k)
  unfolding kind kind_said cell_is scale2 scale3 bar rank mean same expr
  kind_ok (CfRule.CellIs op first second fill) t = (
    dv_op_ok op,
    (operand_ok first t.0, (second_ok (uses_second op) second t.1.0, colour_ok (bytes "\n") fill t.1.1)),
  )
  kind_ok (CfRule.ColorScale2 min max) t = (colour_ok (bytes " ") min t.0, colour_ok (bytes " - -\n") max t.1)
  kind_ok (CfRule.ColorScale3 min mid max) t = (
    colour_ok (bytes " ") min t.0,
    (colour_ok (bytes " ") mid t.1.0, colour_ok (bytes " -\n") max t.1.1),
  )
  kind_ok (CfRule.DataBar color) t = colour_ok (bytes " - - -\n") color t
  kind_ok (CfRule.TopBottom number bottom percent fill) t = (
    omega (arith, t.0),
    (
      either_ok (bytes "top ") (bytes "bottom ") bottom,
      (either_ok (bytes "count ") (bytes "percent ") percent, colour_ok (bytes "\n") fill t.1),
    ),
  )
  kind_ok (CfRule.AboveAverage below fill) t =
      (either_ok (bytes "above - - ") (bytes "below - - ") below, colour_ok (bytes "\n") fill t)
  kind_ok (CfRule.DuplicateValues unique fill) t =
      (either_ok (bytes "duplicate - - ") (bytes "unique - - ") unique, colour_ok (bytes "\n") fill t)
  kind_ok (CfRule.Expression op left right fill) t = (
    comparison_ok op,
    (operand_ok left t.0, (operand_ok right t.1.0, colour_ok (bytes "\n") fill t.1.1)),
  )

  rule_ok : (r : Rule) → TypedRule r → rule_line.Ok (rule_said pool r)
  unfolding rule_line rule_said
  rule_ok r t =
      let g = t.range in
      let stop = either_ok (bytes "0 ") (bytes "1 ") r.stop in
      let imported = either_ok (bytes "0 ") (bytes "1 ") r.imported in
      let priority = priority_ok r.priority t.priority in
      let kind = kind_ok r.kind t.kind in (
        omega (arith, g.top),
        (omega (arith, g.left), (omega (arith, g.bottom), (omega (arith, g.right), (priority, (stop, (imported, kind)))))),
      )

  pub rules_ok : (rs : List Rule) → TypedRules rs
      → times_ok rule_line.Ok (length (map (rule_said pool) rs)) (map (rule_said pool) rs)
  rules_ok [] t = tt
  rules_ok (r ∷ rs) t = (rule_ok r t.0, rules_ok rs t.1)

-- ---- regions

pub region_ok : (rows cols : List ℕ) (i : ℕ) → OnGrid (get_or rows i 0) (get_or cols i 0) → region_line.Ok (region_of rows cols i)
unfolding region_line
region_ok rows cols i g = (omega (arith, g.row), omega (arith, g.col))
