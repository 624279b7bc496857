-- What may be missing, and what may be refused, under the names by which the definitions speak of them. Assumes nothing.
use Rattle.std.specs.Prelude.{Option, Result, ℕ, Float}
use Rattle.model.specs.declared.Span.{Span}
use Rattle.model.specs.declared.CellCoordinate.{CellCoordinate}
use Rattle.model.specs.declared.ConditionalValueKey.{ConditionalValueKey}
use Rattle.model.specs.declared.Split.{Split as SplitAt}
use Rattle.model.specs.declared.Answered.{Answered}
use Rattle.model.specs.declared.Refusal.{Refusal}

-- the number of a cell or an operand, if it reads as one
abbrev pub Reading : Type 0
Reading = Option Float

-- the key of a cell, if it has one
abbrev pub Key : Type 0
Key = Option ConditionalValueKey

-- the name of a sheet; none means this sheet
abbrev pub SheetName : Type 0
SheetName = Option Span

-- a row or a column that a reference names, if it is on the sheet
abbrev pub Axis : Type 0
Axis = Option ℕ

-- the cell that a reference names, if it is on this sheet
abbrev pub Referenced : Type 0
Referenced = Option CellCoordinate

-- a rule's priority, if one is written
abbrev pub Priority : Type 0
Priority = Option ℕ

-- where a comparison is split, if an operator stands outside quotes
abbrev pub Split : Type 0
Split = Option SplitAt

-- what a job comes to, or why it is refused
abbrev pub Answer : Type 0
Answer = Result Answered Refusal
