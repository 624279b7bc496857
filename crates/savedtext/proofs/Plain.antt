-- What a lent job needs so that what it says tells it up to `Alike`: kinds from 1 to 5, a bool of 0 or 1, region columns of one length, and
-- literals that an f64 holds. A well-formed job of the declared types has that, and so has the job of any text. Assumes nothing.
use Prim.Native.Nat.{ℕ, zero, suc, ◌+◌, ◌≤◌, ◌<◌}
use native.Mathlib.Omega.{arith}
use mathlib.Core.Path.{◌≡◌, sym, subst}
use mathlib.Core.Bool.{Bool, true, false, cond}
use mathlib.Core.List.{List, [], ◌∷◌, map}
use lib.Dec.{T}
use lib.Ieee.{binary64, fits}
use lib.Ieee.Bits.{of_bits-fits}
use lib.ListN.{length, get_or, length-map}
use Rattle.model.specs.declared.CfRule.{CfRule}
use Rattle.model.specs.declared.ConditionalOperand.{ConditionalOperand}
use Rattle.model.specs.declared.Rule.{Rule}
use Rattle.model.specs.Job.{Job, rules_of, cell_count, region_count}
use Rattle.laws.specs.Demands.{WellFormed}
use Rattle.jobtext.specs.Written.{Value, CellLine, Operand, Kind, RuleLine, JobText}
use Rattle.jobtext.specs.Laid.{
  kind_of,
  len_of,
  columns_from,
  operand_bytes,
  operand_at,
  kind_bytes,
  kind_at,
  rule_at,
  rules_from,
  records_from,
  cell_bytes,
  laid,
}
use Rattle.textlaws.proofs.SheetLaid.{records_taken}
use Rattle.savedtext.specs.Typed.{TypedOperand, TypedKind, TypedRules, Typed}
use Rattle.savedtext.proofs.Formed.{FormedValue, formed}

-- ---- rules

-- the two operands of a rule, unread where it has none
abbrev pub first_in : CfRule → ConditionalOperand
first_in (CfRule.CellIs op first second fill) = first
first_in (CfRule.ColorScale2 min max) = ConditionalOperand.Unread
first_in (CfRule.ColorScale3 min mid max) = ConditionalOperand.Unread
first_in (CfRule.DataBar color) = ConditionalOperand.Unread
first_in (CfRule.TopBottom rank bottom percent fill) = ConditionalOperand.Unread
first_in (CfRule.AboveAverage below fill) = ConditionalOperand.Unread
first_in (CfRule.DuplicateValues unique fill) = ConditionalOperand.Unread
first_in (CfRule.Expression op left right fill) = left

abbrev pub second_in : CfRule → ConditionalOperand
second_in (CfRule.CellIs op first second fill) = second
second_in (CfRule.ColorScale2 min max) = ConditionalOperand.Unread
second_in (CfRule.ColorScale3 min mid max) = ConditionalOperand.Unread
second_in (CfRule.DataBar color) = ConditionalOperand.Unread
second_in (CfRule.TopBottom rank bottom percent fill) = ConditionalOperand.Unread
second_in (CfRule.AboveAverage below fill) = ConditionalOperand.Unread
second_in (CfRule.DuplicateValues unique fill) = ConditionalOperand.Unread
second_in (CfRule.Expression op left right fill) = right

abbrev pub PlainOperand : ConditionalOperand → Type 0
PlainOperand (ConditionalOperand.Literal x) = T (fits binary64 x)
PlainOperand (ConditionalOperand.Reference r) = Unit {0}
PlainOperand ConditionalOperand.Unread = Unit {0}

abbrev pub PlainKind : CfRule → Type 0
PlainKind k = PlainOperand (first_in k) × PlainOperand (second_in k)

abbrev pub PlainRules : List Rule → Type 0
PlainRules [] = Unit {0}
PlainRules (r ∷ rs) = PlainKind r.kind × PlainRules rs

-- ---- the job

pub record Plain (j : Job) : Type 0 where
  pub cells : (i : ℕ) → i < cell_count j → FormedValue (get_or j.cells.kinds i 0) (get_or j.cells.lens i 0)
  pub regions : length j.region_cols ≡ region_count j
  pub rules : PlainRules (rules_of j)

-- ---- a well-formed job

operand_typed : (o : ConditionalOperand) → TypedOperand o → PlainOperand o
operand_typed (ConditionalOperand.Literal x) t = t
operand_typed (ConditionalOperand.Reference r) t = tt
operand_typed ConditionalOperand.Unread t = tt

kind_typed : (k : CfRule) → TypedKind k → PlainKind k
kind_typed (CfRule.CellIs op first second fill) t = (operand_typed first t.0, operand_typed second t.1.0)
kind_typed (CfRule.ColorScale2 min max) t = (tt, tt)
kind_typed (CfRule.ColorScale3 min mid max) t = (tt, tt)
kind_typed (CfRule.DataBar color) t = (tt, tt)
kind_typed (CfRule.TopBottom rank bottom percent fill) t = (tt, tt)
kind_typed (CfRule.AboveAverage below fill) t = (tt, tt)
kind_typed (CfRule.DuplicateValues unique fill) t = (tt, tt)
kind_typed (CfRule.Expression op left right fill) t = (operand_typed left t.0, operand_typed right t.1.0)

rules_typed : (rs : List Rule) → TypedRules rs → PlainRules rs
rules_typed [] t = tt
rules_typed (r ∷ rs) t = (kind_typed r.kind t.0.kind, rules_typed rs t.1)

pub plain_well_formed : (l : ℕ) (j : Job) → Typed l j → WellFormed j → Plain j
plain_well_formed l j t w =
    let f = formed j w in
    record { cells = λ i h. (f.cell i h).value; regions = f.columns; rules = rules_typed (rules_of j) t.rules }

-- ---- the job of a text

value_plain : (v : Value) → FormedValue (kind_of v) (len_of v)
unfolding kind_of len_of
value_plain (Value.number bits) = record { low = omega arith; high = omega arith; bool = λ e. omega arith }
value_plain (Value.date bits) = record { low = omega arith; high = omega arith; bool = λ e. omega arith }
value_plain (Value.text bs) = record { low = omega arith; high = omega arith; bool = λ e. absurd (omega arith) }
value_plain (Value.bool b) = record { low = omega arith; high = omega arith; bool = λ e. one_bit b }
  where
    one_bit : (b : Bool) → cond b 1 0 ≤ 1
    one_bit true = omega arith
    one_bit false = omega arith
value_plain Value.error = record { low = omega arith; high = omega arith; bool = λ e. omega arith }

cells_plain : (cs : List CellLine) (i : ℕ) → i < length (map (λ (c : CellLine). c.row) cs)
    → FormedValue (get_or (map (λ (c : CellLine). kind_of c.value) cs) i 0) (get_or (map (λ (c : CellLine). len_of c.value) cs) i 0)
cells_plain [] i h = absurd (omega arith)
cells_plain (c ∷ cs) zero h = value_plain c.value
cells_plain (c ∷ cs) (suc i) h = cells_plain cs i (omega arith)

operand_plain : (u : ℕ) (o : Operand) → PlainOperand (operand_at u o)
unfolding operand_at
operand_plain u (Operand.literal bits) = of_bits-fits binary64 bits
operand_plain u (Operand.reference r) = tt
operand_plain u Operand.unread = tt

kind_plain : (u : ℕ) (k : Kind) → PlainKind (kind_at u k)
unfolding kind_at
kind_plain u (Kind.cell_is op first second fill) = (operand_plain u first, operand_plain (u + length (operand_bytes first)) second)
kind_plain u (Kind.scale2 min max) = (tt, tt)
kind_plain u (Kind.scale3 min mid max) = (tt, tt)
kind_plain u (Kind.bar colour) = (tt, tt)
kind_plain u (Kind.rank number bottom percent fill) = (tt, tt)
kind_plain u (Kind.mean below fill) = (tt, tt)
kind_plain u (Kind.same unique fill) = (tt, tt)
kind_plain u (Kind.expr op left right fill) = (operand_plain u left, operand_plain (u + length (operand_bytes left)) right)

rules_plain : (u : ℕ) (rs : List RuleLine) → PlainRules (rules_from u rs)
unfolding rules_from rule_at
rules_plain u [] = tt
rules_plain u (r ∷ rs) = (kind_plain u r.kind, rules_plain (u + length (kind_bytes r.kind)) rs)

pub plain_laid : (k : JobText) → Plain (laid k)
unfolding laid columns_from rules_of records_from
plain_laid k =
    let u = length k.name + length (cell_bytes k.cells) in
    record {
      cells = cells_plain k.cells;
      regions = simp length-map;
      rules = subst PlainRules (sym (records_taken u k.rules)) (rules_plain u k.rules);
    }
