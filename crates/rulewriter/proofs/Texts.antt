-- The texts of a rule line's parts, each as the pieces in which it is put. Assumes nothing.
use Prim.Native.Nat.{ℕ}
use mathlib.Core.Path.{◌≡◌, refl, sym, subst}
use mathlib.Core.Bool.{Bool, true, false, cond, not}
use mathlib.Core.List.{List, [], ◌∷◌, ◌++◌, append_assoc}
use lib.Dec.{T}
use lib.Ieee.{Float, nan, inf, fin, is_nan, binary64, to_bits}
use Rattle.model.specs.declared.A1Reference.{A1Reference}
use Rattle.model.specs.declared.CfRule.{CfRule}
use Rattle.model.specs.declared.ConditionalComparison.{ConditionalComparison}
use Rattle.model.specs.declared.ConditionalOperand.{ConditionalOperand}
use Rattle.model.specs.declared.DvOp.{DvOp}
use Rattle.model.specs.declared.Rgb.{Rgb}
use Rattle.model.specs.declared.Rule.{Rule}
use Rattle.model.specs.Comparison.{uses_second}
use Rattle.model.specs.Readings.{finite}
use denote.Enum.Declared.{tag_of}
use Rattle.model.specs.contracts.DvOp.{the_type as dv_op_type}
use Rattle.model.specs.contracts.ConditionalComparison.{the_type as comparison_type}
use Rattle.grammar.specs.Parts.{space, comma, bytes}
use Rattle.grammar.specs.Numbers.{decimal_text, hex_digits}
use Rattle.jobtext.specs.Written.{Operand}
use Rattle.jobtext.specs.Fields.{flag, of_absolute, reference_name, reference, operand, colour, priority}
use Rattle.jobtext.specs.Fields.{of_dv_op, dv_op, of_comparison, comparison}
use Rattle.jobtext.specs.Rules.{second_if, cell_is, expr, kind, rule_line}
use Rattle.jobtext.specs.Said.{name_said, reference_said, operand_said, kind_said, rule_said}
use Rattle.rulewriter.specs.Ranges.{range_text}

-- a number, and the byte that ends it
abbrev pub ended : ℕ → ℕ → List ℕ
ended n end = decimal_text n ++ (end ∷ [])

-- ---- colours

pub colour_text : (end : List ℕ) (c : Rgb)
    → (colour end).text c ≡ hex_digits 2 c.red ++ (hex_digits 2 c.green ++ (hex_digits 2 c.blue ++ end))
unfolding colour
colour_text end c = simp append_assoc

-- ---- operands

module _ (x : Float) where
  abbrev literal_text : List ℕ
  literal_text = operand.text (cond (finite x) (Operand.literal (to_bits binary64 x)) Operand.unread)

  pub literal_unread : finite x ≡ false → literal_text ≡ bytes "u "
  unfolding operand
  literal_unread e = rw e

  pub literal_finite : {bits : ℕ} → finite x ≡ true → bits ≡ to_bits binary64 x
      → literal_text ≡ bytes "n" ++ (hex_digits 16 bits ++ bytes " ")
  unfolding operand
  literal_finite e p = rw (e, p)

module _ (pool : List ℕ) where
  pub reference_text : (a : A1Reference) {code : ℕ} → code ≡ of_absolute (a.row_absolute, a.col_absolute)
      → reference.text (reference_said pool a)
      ≡ ended a.row comma ++ (ended a.col comma ++ (ended code comma ++ reference_name.text (name_said pool a.sheet)))
  unfolding reference reference_said
  reference_text a p = rw p

  pub operand_as : {o p : ConditionalOperand} → o ≡ p → operand.text (operand_said pool o) ≡ operand.text (operand_said pool p)
  operand_as e = rw e

-- ---- rule words

module _ (pool : List ℕ) where
  abbrev second_text : Bool → ConditionalOperand → List ℕ
  second_text used o = (second_if used).text (cond used (operand_said pool o) Operand.unread)

  pub cell_is_text : (op : DvOp) {code : ℕ} {used : Bool} (first second : ConditionalOperand) (fill : Rgb) → code ≡ of_dv_op op
      → used ≡ uses_second op → kind.text (kind_said pool (CfRule.CellIs op first second fill))
      ≡ bytes "cellis "
      ++ (ended code space ++ (operand.text (operand_said pool first) ++ (second_text used second ++ (colour (bytes "\n")).text fill)))
  unfolding kind kind_said cell_is dv_op
  cell_is_text op first second fill p q = rw (p, q)

  pub expression_text : (op : ConditionalComparison) {code : ℕ} (left right : ConditionalOperand) (fill : Rgb)
      → code ≡ of_comparison op → kind.text (kind_said pool (CfRule.Expression op left right fill))
      ≡ bytes "expr "
      ++ (ended code space
      ++ (operand.text (operand_said pool left) ++ (operand.text (operand_said pool right) ++ (colour (bytes "\n")).text fill)))
  unfolding kind kind_said expr comparison
  expression_text op left right fill p = rw p

-- ---- the line

pub rule_text : (pool : List ℕ) (rule : Rule) → rule_line.text (rule_said pool rule)
    ≡ range_text rule.range
    ++ (priority.text rule.priority
    ++ (flag.text rule.stop ++ (flag.text rule.imported ++ kind.text (kind_said pool rule.kind))))
unfolding rule_line rule_said
rule_text pool rule = simp append_assoc

-- ---- numbers

-- a finite number is a number
pub finite_number : (x : Float) → finite x ≡ true → T (not (is_nan x))
unfolding finite is_nan
finite_number nan h = subst T (sym h) tt
finite_number (inf s) h = tt
finite_number (fin s m e) h = tt

-- ---- operators: an operator's number is its place in the declaration

pub dv_op_number : (op : DvOp) → tag_of dv_op_type op ≡ of_dv_op op
dv_op_number DvOp.Between = refl
dv_op_number DvOp.NotBetween = refl
dv_op_number DvOp.Equal = refl
dv_op_number DvOp.NotEqual = refl
dv_op_number DvOp.GreaterThan = refl
dv_op_number DvOp.LessThan = refl
dv_op_number DvOp.GreaterThanOrEqual = refl
dv_op_number DvOp.LessThanOrEqual = refl

pub comparison_number : (op : ConditionalComparison) → tag_of comparison_type op ≡ of_comparison op
comparison_number ConditionalComparison.Equal = refl
comparison_number ConditionalComparison.NotEqual = refl
comparison_number ConditionalComparison.Less = refl
comparison_number ConditionalComparison.LessOrEqual = refl
comparison_number ConditionalComparison.Greater = refl
comparison_number ConditionalComparison.GreaterOrEqual = refl
