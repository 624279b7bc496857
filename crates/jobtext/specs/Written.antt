-- What a job text says, line by line: texts as their bytes, numbers of cells and of operands as their 64 bits. Assumes nothing.
use Rattle.std.specs.Prelude.{ℕ, Bool, List}
use Rattle.std.proofs.Math.Option.{Option}
use Rattle.model.specs.declared.CellCoordinate.{CellCoordinate}
use Rattle.model.specs.declared.ConditionalComparison.{ConditionalComparison}
use Rattle.model.specs.declared.DvOp.{DvOp}
use Rattle.model.specs.Options.{Priority}
use Rattle.model.specs.declared.Range.{Range}
use Rattle.model.specs.declared.Rgb.{Rgb}

pub data Value : Type 0 where
  number : ℕ → Value
  date : ℕ → Value
  text : List ℕ → Value
  bool : Bool → Value
  error : Value

pub record CellLine : Type 0 where
  pub row : ℕ
  pub col : ℕ
  pub wraps : ℕ
  pub value : Value

-- no name means this sheet
pub record Reference : Type 0 where
  pub row : ℕ
  pub col : ℕ
  pub row_absolute : Bool
  pub col_absolute : Bool
  pub name : Option (List ℕ)

pub data Operand : Type 0 where
  literal : ℕ → Operand
  reference : Reference → Operand
  unread : Operand

-- the rule words with their parameters; `cell_is` has `unread` for a second operand that it does not use
pub data Kind : Type 0 where
  cell_is : DvOp → Operand → Operand → Rgb → Kind
  scale2 : Rgb → Rgb → Kind
  scale3 : Rgb → Rgb → Rgb → Kind
  bar : Rgb → Kind
  rank : ℕ → Bool → Bool → Rgb → Kind
  mean : Bool → Rgb → Kind
  same : Bool → Rgb → Kind
  expr : ConditionalComparison → Operand → Operand → Rgb → Kind

pub record RuleLine : Type 0 where
  pub range : Range
  pub priority : Priority
  pub stop : Bool
  pub imported : Bool
  pub kind : Kind

-- the numbers of cells, regions and rules are those of the lists
pub record JobText : Type 0 where
  pub limit : ℕ
  pub start : ℕ
  pub name : List ℕ
  pub cells : List CellLine
  pub regions : List CellCoordinate
  pub rules : List RuleLine

-- a job with another limit
abbrev pub with_limit : ℕ → JobText → JobText
with_limit limit j =
    record { limit = limit; start = j.start; name = j.name; cells = j.cells; regions = j.regions; rules = j.rules }
