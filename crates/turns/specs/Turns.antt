-- The rules one after the other, by what each is found to say: the charges so far, the counts, and what the stop flags, the mark columns
-- and the bar columns hold. Assumes nothing.
use Rattle.std.specs.Prelude.{ℕ, ◌+◌, List, [], ◌∷◌, length, replicate, Ok}
use Rattle.charging.specs.Charge.{Charged, counter}
use Rattle.model.specs.declared.Rule.{Rule}
use Rattle.model.specs.declared.Rules.{Rules}
use Rattle.model.specs.declared.Span.{Span}
use Rattle.model.specs.Sheet.{Sheet, CellColumns, regions_from}
use Rattle.model.specs.Run.{Mark, IndexedRule, marks_from}
use Rattle.order.specs.Order.{ordered_rules}
use Rattle.cells.specs.Columns.{cells_of}
use Rattle.ranges.specs.Turns.{sheet_from}
use Rattle.turns.specs.Emit.{MarkColumns, put_marks, BarColumns, draw_bars, stops}
use Rattle.turns.specs.Step.{Step, step_of}
use Rattle.settling.specs.declared.Ran.{Ran}

-- the rules so far, with what is lent and the stop flags of the regions
pub record State : Type 0 where
  pub ran : Ran
  pub flags : List ℕ
  pub marks : MarkColumns
  pub bars : BarColumns

abbrev pub state_of : Ran → List ℕ → MarkColumns → BarColumns → State
state_of ran flags marks bars = record { ran = ran; flags = flags; marks = marks; bars = bars }

-- no charge, no mark and no rule yet, from the count `start`
abbrev pub ran_none : ℕ → Ran
ran_none start = record { charged = Ok (counter start); marks = 0; deferred = 0; simplified = 0 }

-- a rule's own marks
abbrev pub marks_of : ℕ → Step → List Mark
marks_of index said = marks_from index 0 said.outcomes

abbrev pub ran_after : Ran → Step → ℕ → Ran
ran_after ran said marks =
    record {
      charged = said.charged;
      marks = ran.marks + marks;
      deferred = ran.deferred + said.deferred;
      simplified = ran.simplified + said.simplified;
    }

-- one rule, by what it is found to say
unfoldable pub turn : IndexedRule → Step → State → State
turn i said state =
    let ms = marks_of i.index said in
    record {
      ran = ran_after state.ran said (length ms);
      flags = stops i.rule.stop 0 said.outcomes state.flags;
      marks = put_marks state.marks state.ran.marks ms;
      bars = draw_bars i.index 0 said.outcomes state.bars;
    }

-- the rules in turn; what a rule says depends on the charges and the stop flags that it finds
unfoldable pub turns : (Rule → Charged → List ℕ → Step) → List IndexedRule → State → State
turns say [] state = state
turns say (i ∷ is) state = turns say is (turn i (say i.rule state.ran.charged state.flags) state)

-- what is left of a state when the rules have ended
pub record Left : Type 0 where
  pub ran : Ran
  pub marks : MarkColumns
  pub bars : BarColumns

abbrev pub left : Ran → MarkColumns → BarColumns → Left
left ran marks bars = record { ran = ran; marks = marks; bars = bars }

abbrev pub left_by : State → Left
left_by state = left state.ran state.marks state.bars

-- ---- over lent columns

abbrev pub indexed : ℕ → Rule → IndexedRule
indexed index rule = record { index = index; rule = rule }

-- the sheet that the columns hold
abbrev pub sheet_in : CellColumns → List ℕ → List ℕ → List ℕ → Span → Sheet
sheet_in cells region_rows region_cols pool name =
    sheet_from (cells_of cells) (regions_from region_rows region_cols 0 (length region_rows)) pool name

-- what a rule says under a limit
abbrev pub say_in : Sheet → ℕ → List ℕ → List ℕ → Rule → Charged → List ℕ → Step
say_in s limit rows cols r charged flags = step_of s r charged limit rows cols flags

-- the rules in their order, from a count and from what the columns hold; no region is stopped
abbrev pub run_in : Sheet → ℕ → List ℕ → List ℕ → Rules → ℕ → MarkColumns → BarColumns → State
run_in s limit rows cols rules start marks bars =
    turns (say_in s limit rows cols) (ordered_rules rules) (state_of (ran_none start) (replicate 1024 0) marks bars)
