-- What a lent job says, as a job text would: its texts and names as their bytes, wherever they sit in the pool, and its numbers as their
-- bits. An operand that is not finite or not used says what one says that could not be read. Assumes nothing.
use Rattle.std.specs.Prelude.{ℕ, zero, suc, ◌≡◌, cond, List, [], ◌∷◌, map, eqb, Float, get_or, Some, None}
use Rattle.std.proofs.Math.Option.{Option, none, some}
use Rattle.std.specs.Float.{binary64}
use Rattle.std.specs.Float.Ieee.{of_bits, to_bits}
use Rattle.model.specs.declared.A1Reference.{A1Reference}
use Rattle.model.specs.declared.CellValue.{CellValue}
use Rattle.model.specs.declared.CfRule.{CfRule}
use Rattle.model.specs.declared.ConditionalOperand.{ConditionalOperand}
use Rattle.model.specs.declared.Rule.{Rule}
use Rattle.model.specs.Options.{SheetName}
use Rattle.model.specs.declared.Span.{Span}
use Rattle.model.specs.Comparison.{uses_second}
use Rattle.model.specs.Readings.{finite}
use Rattle.model.specs.Sheet.{CellColumns, text_at, regions_from}
use Rattle.model.specs.Job.{Job, rules_of, cell_count, region_count}
use Rattle.jobtext.specs.Written.{Value, CellLine, Reference, Operand, Kind, RuleLine, JobText}

module _ (pool : List ℕ) where
  -- ---- cells

  -- by the number of the kind, as `value_of` (model) reads it
  unfoldable pub value_said : ℕ → ℕ → ℕ → ℕ → Value
  value_said kind bits at len =
      cond (eqb kind 1) (Value.number bits)
      (cond (eqb kind 2) (Value.date bits)
      (cond (eqb kind 3) (Value.text (text_at pool (record { at = at; len = len })))
      (cond (eqb kind 4) (Value.bool (eqb len 1)) Value.error)))

  -- a text that has these bytes
  pub record IsText (bs : List ℕ) (v : CellValue) : Type 0 where
    pub span : Span
    pub is : v ≡ CellValue.Text span
    pub bytes : text_at pool span ≡ bs

  -- what is said is the value that is decided on
  abbrev pub Means : Value → CellValue → Type 0
  Means (Value.number bits) v = v ≡ CellValue.Number (of_bits binary64 bits)
  Means (Value.date bits) v = v ≡ CellValue.Date (of_bits binary64 bits)
  Means (Value.text bs) v = IsText bs v
  Means (Value.bool b) v = v ≡ CellValue.Bool b
  Means Value.error v = v ≡ CellValue.Error

  unfoldable pub cell_said : CellColumns → ℕ → CellLine
  cell_said c i =
      record {
        row = get_or c.rows i 0;
        col = get_or c.cols i 0;
        wraps = get_or c.wraps i 0;
        value = value_said (get_or c.kinds i 0) (get_or c.nums i 0) (get_or c.ats i 0) (get_or c.lens i 0);
      }

  -- the n cells from index i on
  unfoldable pub cells_said : CellColumns → ℕ → ℕ → List CellLine
  cells_said c i zero = []
  cells_said c i (suc n) = cell_said c i ∷ cells_said c (suc i) n

  -- ---- rules

  unfoldable pub name_said : SheetName → Option (List ℕ)
  name_said None = none
  name_said (Some span) = some (text_at pool span)

  unfoldable pub reference_said : A1Reference → Reference
  reference_said r =
      record {
        row = r.row;
        col = r.col;
        row_absolute = r.row_absolute;
        col_absolute = r.col_absolute;
        name = name_said r.sheet;
      }

  unfoldable pub literal_said : Float → Operand
  literal_said x = cond (finite x) (Operand.literal (to_bits binary64 x)) Operand.unread

  unfoldable pub operand_said : ConditionalOperand → Operand
  operand_said (ConditionalOperand.Literal x) = literal_said x
  operand_said (ConditionalOperand.Reference r) = Operand.reference (reference_said r)
  operand_said ConditionalOperand.Unread = Operand.unread

  unfoldable pub kind_said : CfRule → Kind
  kind_said (CfRule.CellIs op first second fill) =
      Kind.cell_is op (operand_said first) (cond (uses_second op) (operand_said second) Operand.unread) fill
  kind_said (CfRule.ColorScale2 min max) = Kind.scale2 min max
  kind_said (CfRule.ColorScale3 min mid max) = Kind.scale3 min mid max
  kind_said (CfRule.DataBar colour) = Kind.bar colour
  kind_said (CfRule.TopBottom number bottom percent fill) = Kind.rank number bottom percent fill
  kind_said (CfRule.AboveAverage below fill) = Kind.mean below fill
  kind_said (CfRule.DuplicateValues unique fill) = Kind.same unique fill
  kind_said (CfRule.Expression op left right fill) = Kind.expr op (operand_said left) (operand_said right) fill

  unfoldable pub rule_said : Rule → RuleLine
  rule_said r =
      record { range = r.range; priority = r.priority; stop = r.stop; imported = r.imported; kind = kind_said r.kind }

-- ---- the job

-- with a limit
unfoldable pub job_said : ℕ → Job → JobText
job_said limit j =
    record {
      limit = limit;
      start = j.start;
      name = text_at j.pool j.name;
      cells = cells_said j.pool j.cells 0 (cell_count j);
      regions = regions_from j.region_rows j.region_cols 0 (region_count j);
      rules = map (rule_said j.pool) (rules_of j);
    }
