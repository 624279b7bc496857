-- When two lent jobs, each with a limit, differ only in where texts sit in the pool, in fields for which the text has no place or a `-`, or
-- in non-finite against unread operands (document 02, T-01): field by field, what has to be equal. What is not named here is free: the
-- number of a cell that is neither number nor date, the span of one that is neither text nor bool, a bool's place, a second operand that
-- the operator does not use, rule records past their number, and bytes of the pool that no text has. Assumes nothing.
use Rattle.std.specs.Prelude.{ℕ, ◌<◌, ◌≡◌, ◌⊎◌, Bool, true, false, not, List, [], ◌∷◌, Float, get_or, Some, None}
use Rattle.model.specs.declared.A1Reference.{A1Reference}
use Rattle.model.specs.declared.CfRule.{CfRule}
use Rattle.model.specs.declared.ConditionalComparison.{ConditionalComparison}
use Rattle.model.specs.declared.ConditionalOperand.{ConditionalOperand}
use Rattle.model.specs.declared.DvOp.{DvOp}
use Rattle.model.specs.declared.Rgb.{Rgb}
use Rattle.model.specs.declared.Rule.{Rule}
use Rattle.model.specs.Options.{SheetName}
use Rattle.model.specs.declared.Span.{Span}
use Rattle.model.specs.Comparison.{uses_second}
use Rattle.model.specs.Readings.{finite}
use Rattle.model.specs.Sheet.{CellColumns, text_at}
use Rattle.model.specs.Job.{Job, rules_of, cell_count}

-- a literal that is not finite counts as unread
abbrev pub is_unread : ConditionalOperand → Bool
is_unread (ConditionalOperand.Literal x) = not (finite x)
is_unread (ConditionalOperand.Reference r) = false
is_unread ConditionalOperand.Unread = true

-- the pools of the two jobs
module _ (p q : List ℕ) where
  -- the same bytes, wherever they sit
  abbrev pub SameText : Span → Span → Type 0
  SameText s t = text_at p s ≡ text_at q t

  -- ---- cells

  abbrev span_in : CellColumns → ℕ → Span
  span_in c i = record { at = get_or c.ats i 0; len = get_or c.lens i 0 }

  abbrev kind_in : CellColumns → ℕ → ℕ
  kind_in c i = get_or c.kinds i 0

  pub record CellAlike (c d : CellColumns) (i : ℕ) : Type 0 where
    pub row : get_or c.rows i 0 ≡ get_or d.rows i 0
    pub col : get_or c.cols i 0 ≡ get_or d.cols i 0
    pub kind : kind_in c i ≡ kind_in d i
    pub wraps : get_or c.wraps i 0 ≡ get_or d.wraps i 0
    -- of a number or a date the 64 bits
    pub bits : (kind_in c i ≡ 1) ⊎ (kind_in c i ≡ 2) → get_or c.nums i 0 ≡ get_or d.nums i 0
    -- of a text its bytes
    pub text : kind_in c i ≡ 3 → SameText (span_in c i) (span_in d i)
    -- of a bool 0 or 1
    pub bool : kind_in c i ≡ 4 → get_or c.lens i 0 ≡ get_or d.lens i 0

  -- ---- rules

  abbrev pub NameAlike : SheetName → SheetName → Type 0
  NameAlike None None = Unit {0}
  NameAlike None (Some t) = ⊥
  NameAlike (Some s) None = ⊥
  NameAlike (Some s) (Some t) = SameText s t

  pub record ReferenceAlike (a b : A1Reference) : Type 0 where
    pub row : a.row ≡ b.row
    pub col : a.col ≡ b.col
    pub row_absolute : a.row_absolute ≡ b.row_absolute
    pub col_absolute : a.col_absolute ≡ b.col_absolute
    pub name : NameAlike a.sheet b.sheet

  pub data OperandAlike : ConditionalOperand → ConditionalOperand → Type 0 where
    literal : (x : Float) → OperandAlike (ConditionalOperand.Literal x) (ConditionalOperand.Literal x)
    reference : (a b : A1Reference) → ReferenceAlike a b
        → OperandAlike (ConditionalOperand.Reference a) (ConditionalOperand.Reference b)
    unread : (a b : ConditionalOperand) → is_unread a ≡ true → is_unread b ≡ true → OperandAlike a b

  pub data KindAlike : CfRule → CfRule → Type 0 where
    -- a second operand counts where the operator uses it
    cell_is : (op : DvOp) (first second first' second' : ConditionalOperand) (fill : Rgb) → OperandAlike first first'
        → (uses_second op ≡ true → OperandAlike second second')
        → KindAlike (CfRule.CellIs op first second fill) (CfRule.CellIs op first' second' fill)
    scale2 : (min max : Rgb) → KindAlike (CfRule.ColorScale2 min max) (CfRule.ColorScale2 min max)
    scale3 : (min mid max : Rgb) → KindAlike (CfRule.ColorScale3 min mid max) (CfRule.ColorScale3 min mid max)
    bar : (color : Rgb) → KindAlike (CfRule.DataBar color) (CfRule.DataBar color)
    rank : (number : ℕ) (bottom percent : Bool) (fill : Rgb)
        → KindAlike (CfRule.TopBottom number bottom percent fill) (CfRule.TopBottom number bottom percent fill)
    mean : (below : Bool) (fill : Rgb) → KindAlike (CfRule.AboveAverage below fill) (CfRule.AboveAverage below fill)
    same : (unique : Bool) (fill : Rgb) → KindAlike (CfRule.DuplicateValues unique fill) (CfRule.DuplicateValues unique fill)
    expr : (op : ConditionalComparison) (left right left' right' : ConditionalOperand) (fill : Rgb) → OperandAlike left left'
        → OperandAlike right right' → KindAlike (CfRule.Expression op left right fill) (CfRule.Expression op left' right' fill)

  pub record RuleAlike (r s : Rule) : Type 0 where
    pub range : r.range ≡ s.range
    pub priority : r.priority ≡ s.priority
    pub stop : r.stop ≡ s.stop
    pub imported : r.imported ≡ s.imported
    pub kind : KindAlike r.kind s.kind

  abbrev pub RulesAlike : List Rule → List Rule → Type 0
  RulesAlike [] [] = Unit {0}
  RulesAlike [] (s ∷ ss) = ⊥
  RulesAlike (r ∷ rs) [] = ⊥
  RulesAlike (r ∷ rs) (s ∷ ss) = RuleAlike r s × RulesAlike rs ss

-- ---- the job

-- with the limits l and m
pub record Alike (l : ℕ) (j : Job) (m : ℕ) (k : Job) : Type 0 where
  pub limit : l ≡ m
  pub start : j.start ≡ k.start
  pub name : SameText j.pool k.pool j.name k.name
  pub count : cell_count j ≡ cell_count k
  pub cells : (i : ℕ) → i < cell_count j → CellAlike j.pool k.pool j.cells k.cells i
  pub region_rows : j.region_rows ≡ k.region_rows
  pub region_cols : j.region_cols ≡ k.region_cols
  pub rules : RulesAlike j.pool k.pool (rules_of j) (rules_of k)
