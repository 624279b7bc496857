-- What the lent columns, the rules and the numbers of a job hold by their types: u8, u16, u32, u64 and f64. A job over lists of whole
-- numbers could hold more; no memory of these types can. Assumes nothing.
use Rattle.std.specs.Prelude.{ℕ, ◌^◌, ◌<◌, List, [], ◌∷◌, T, get_or, Some, None}
use Rattle.std.specs.Float.{binary64}
use Rattle.std.specs.Float.Ieee.{fits}
use Rattle.model.specs.declared.A1Reference.{A1Reference}
use Rattle.model.specs.declared.CfRule.{CfRule}
use Rattle.model.specs.declared.ConditionalOperand.{ConditionalOperand}
use Rattle.model.specs.Options.{Priority}
use Rattle.model.specs.declared.Range.{Range}
use Rattle.model.specs.declared.Rgb.{Rgb}
use Rattle.model.specs.declared.Rule.{Rule}
use Rattle.model.specs.Job.{Job, rules_of}

-- every element of a column is below 2^bits
abbrev pub Width : ℕ → List ℕ → Type 0
Width bits xs = (i : ℕ) → get_or xs i 0 < 2 ^ bits

pub record TypedColour (c : Rgb) : Type 0 where
  pub red : c.red < 2 ^ 8
  pub green : c.green < 2 ^ 8
  pub blue : c.blue < 2 ^ 8

pub record TypedRange (r : Range) : Type 0 where
  pub top : r.top < 2 ^ 32
  pub left : r.left < 2 ^ 16
  pub bottom : r.bottom < 2 ^ 32
  pub right : r.right < 2 ^ 16

abbrev pub TypedPriority : Priority → Type 0
TypedPriority (Some n) = n < 2 ^ 32
TypedPriority None = Unit {0}

pub record TypedReference (r : A1Reference) : Type 0 where
  pub row : r.row < 2 ^ 32
  pub col : r.col < 2 ^ 16

abbrev pub TypedOperand : ConditionalOperand → Type 0
TypedOperand (ConditionalOperand.Literal x) = T (fits binary64 x)
TypedOperand (ConditionalOperand.Reference r) = TypedReference r
TypedOperand ConditionalOperand.Unread = Unit {0}

abbrev pub TypedKind : CfRule → Type 0
TypedKind (CfRule.CellIs op first second fill) = TypedOperand first × (TypedOperand second × TypedColour fill)
TypedKind (CfRule.ColorScale2 min max) = TypedColour min × TypedColour max
TypedKind (CfRule.ColorScale3 min mid max) = TypedColour min × (TypedColour mid × TypedColour max)
TypedKind (CfRule.DataBar color) = TypedColour color
TypedKind (CfRule.TopBottom rank bottom percent fill) = (rank < 2 ^ 32) × TypedColour fill
TypedKind (CfRule.AboveAverage below fill) = TypedColour fill
TypedKind (CfRule.DuplicateValues unique fill) = TypedColour fill
TypedKind (CfRule.Expression op left right fill) = TypedOperand left × (TypedOperand right × TypedColour fill)

pub record TypedRule (r : Rule) : Type 0 where
  pub range : TypedRange r.range
  pub priority : TypedPriority r.priority
  pub kind : TypedKind r.kind

abbrev pub TypedRules : List Rule → Type 0
TypedRules [] = Unit {0}
TypedRules (r ∷ rs) = TypedRule r × TypedRules rs

-- a job with the limit l; rows and columns of a well-formed job are on the grid besides
pub record Typed (l : ℕ) (j : Job) : Type 0 where
  pub limit : l < 2 ^ 64
  pub start : j.start < 2 ^ 64
  pub wraps : Width 8 j.cells.wraps
  pub nums : Width 64 j.cells.nums
  pub pool : Width 8 j.pool
  pub rules : TypedRules (rules_of j)
