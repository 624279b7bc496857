-- The job that a job text stands for, as it is lent. The pool holds the texts one after the other, in the order of the text:
-- the sheet's name, the texts of the cells, the names of the rules' references. Assumes nothing.
use Rattle.std.specs.Prelude.{ℕ, ◌+◌, ◌-◌, Bool, cond, List, [], ◌∷◌, ◌++◌, map, length, replicate, Some, None}
use Rattle.std.proofs.Math.Option.{Option, none, some}
use Rattle.std.specs.Float.{binary64}
use Rattle.std.specs.Float.Ieee.{of_bits}
use Rattle.model.specs.declared.A1Reference.{A1Reference}
use Rattle.model.specs.declared.CellCoordinate.{CellCoordinate}
use Rattle.model.specs.declared.CfRule.{CfRule}
use Rattle.model.specs.declared.ConditionalOperand.{ConditionalOperand}
use Rattle.model.specs.declared.Rule.{Rule}
use Rattle.model.specs.declared.Rules.{Rules}
use Rattle.model.specs.Options.{SheetName}
use Rattle.model.specs.declared.Span.{Span}
use Rattle.model.specs.Sheet.{CellColumns, max_rules}
use Rattle.model.specs.Job.{Job}
use Rattle.jobtext.specs.Written.{Value, CellLine, Reference, Operand, Kind, RuleLine, JobText}

-- the text bs at u in the pool
abbrev pub span_at : ℕ → List ℕ → Span
span_at u bs = record { at = u; len = length bs }

-- ---- cells

unfoldable pub value_bytes : Value → List ℕ
value_bytes (Value.number bits) = []
value_bytes (Value.date bits) = []
value_bytes (Value.text bs) = bs
value_bytes (Value.bool b) = []
value_bytes Value.error = []

unfoldable pub cell_bytes : List CellLine → List ℕ
cell_bytes [] = []
cell_bytes (c ∷ cs) = value_bytes c.value ++ cell_bytes cs

unfoldable pub kind_of : Value → ℕ
kind_of (Value.number bits) = 1
kind_of (Value.date bits) = 2
kind_of (Value.text bs) = 3
kind_of (Value.bool b) = 4
kind_of Value.error = 5

unfoldable pub num_of : Value → ℕ
num_of (Value.number bits) = bits
num_of (Value.date bits) = bits
num_of (Value.text bs) = 0
num_of (Value.bool b) = 0
num_of Value.error = 0

-- the place of a value's text, the pool being used up to u
unfoldable pub at_of : ℕ → Value → ℕ
at_of u (Value.number bits) = 0
at_of u (Value.date bits) = 0
at_of u (Value.text bs) = u
at_of u (Value.bool b) = 0
at_of u Value.error = 0

unfoldable pub len_of : Value → ℕ
len_of (Value.number bits) = 0
len_of (Value.date bits) = 0
len_of (Value.text bs) = length bs
len_of (Value.bool b) = cond b 1 0
len_of Value.error = 0

unfoldable pub ats_from : ℕ → List CellLine → List ℕ
ats_from u [] = []
ats_from u (c ∷ cs) = at_of u c.value ∷ ats_from (u + length (value_bytes c.value)) cs

unfoldable pub columns_from : ℕ → List CellLine → CellColumns
columns_from u cs =
    record {
      rows = map (λ (c : CellLine). c.row) cs;
      cols = map (λ (c : CellLine). c.col) cs;
      kinds = map (λ (c : CellLine). kind_of c.value) cs;
      wraps = map (λ (c : CellLine). c.wraps) cs;
      nums = map (λ (c : CellLine). num_of c.value) cs;
      ats = ats_from u cs;
      lens = map (λ (c : CellLine). len_of c.value) cs;
    }

-- ---- rules

unfoldable pub name_bytes : Option (List ℕ) → List ℕ
name_bytes none = []
name_bytes (some bs) = bs

unfoldable pub name_at : ℕ → Option (List ℕ) → SheetName
name_at u none = None
name_at u (some bs) = Some (span_at u bs)

unfoldable pub reference_at : ℕ → Reference → A1Reference
reference_at u r =
    record {
      sheet = name_at u r.name;
      row = r.row;
      col = r.col;
      row_absolute = r.row_absolute;
      col_absolute = r.col_absolute;
    }

unfoldable pub operand_bytes : Operand → List ℕ
operand_bytes (Operand.literal bits) = []
operand_bytes (Operand.reference r) = name_bytes r.name
operand_bytes Operand.unread = []

unfoldable pub operand_at : ℕ → Operand → ConditionalOperand
operand_at u (Operand.literal bits) = ConditionalOperand.Literal (of_bits binary64 bits)
operand_at u (Operand.reference r) = ConditionalOperand.Reference (reference_at u r)
operand_at u Operand.unread = ConditionalOperand.Unread

-- the second operand's name stands after the first one's
unfoldable pub kind_bytes : Kind → List ℕ
kind_bytes (Kind.cell_is op first second fill) = operand_bytes first ++ operand_bytes second
kind_bytes (Kind.scale2 min max) = []
kind_bytes (Kind.scale3 min mid max) = []
kind_bytes (Kind.bar colour) = []
kind_bytes (Kind.rank number bottom percent fill) = []
kind_bytes (Kind.mean below fill) = []
kind_bytes (Kind.same unique fill) = []
kind_bytes (Kind.expr op left right fill) = operand_bytes left ++ operand_bytes right

unfoldable pub kind_at : ℕ → Kind → CfRule
kind_at u (Kind.cell_is op first second fill) =
    CfRule.CellIs op (operand_at u first) (operand_at (u + length (operand_bytes first)) second) fill
kind_at u (Kind.scale2 min max) = CfRule.ColorScale2 min max
kind_at u (Kind.scale3 min mid max) = CfRule.ColorScale3 min mid max
kind_at u (Kind.bar colour) = CfRule.DataBar colour
kind_at u (Kind.rank number bottom percent fill) = CfRule.TopBottom number bottom percent fill
kind_at u (Kind.mean below fill) = CfRule.AboveAverage below fill
kind_at u (Kind.same unique fill) = CfRule.DuplicateValues unique fill
kind_at u (Kind.expr op left right fill) =
    CfRule.Expression op (operand_at u left) (operand_at (u + length (operand_bytes left)) right) fill

unfoldable pub rule_at : ℕ → RuleLine → Rule
rule_at u r =
    record { range = r.range; priority = r.priority; stop = r.stop; imported = r.imported; kind = kind_at u r.kind }

unfoldable pub rule_bytes : List RuleLine → List ℕ
rule_bytes [] = []
rule_bytes (r ∷ rs) = kind_bytes r.kind ++ rule_bytes rs

unfoldable pub rules_from : ℕ → List RuleLine → List Rule
rules_from u [] = []
rules_from u (r ∷ rs) = rule_at u r ∷ rules_from (u + length (kind_bytes r.kind)) rs

-- what stands in a record past the rules
abbrev pub blank_rule : Rule
blank_rule =
    record {
      range = record { top = 0; left = 0; bottom = 0; right = 0 };
      priority = None;
      stop = Bool.false;
      imported = Bool.false;
      kind = CfRule.DataBar (record { red = 0; green = 0; blue = 0 });
    }

unfoldable pub records_from : ℕ → List RuleLine → Rules
records_from u rs =
    record { records = rules_from u rs ++ replicate (max_rules - length rs) blank_rule; number = length rs }

-- ---- the job

unfoldable pub laid : JobText → Job
laid j =
    let cells = length j.name in
    let rules = cells + length (cell_bytes j.cells) in
    record {
      cells = columns_from cells j.cells;
      region_rows = map (λ (r : CellCoordinate). r.row) j.regions;
      region_cols = map (λ (r : CellCoordinate). r.col) j.regions;
      pool = j.name ++ (cell_bytes j.cells ++ rule_bytes j.rules);
      name = span_at 0 j.name;
      rules = records_from rules j.rules;
      start = j.start;
    }
