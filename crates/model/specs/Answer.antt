-- The answer: its number and values, and what becomes of a run under a limit and a space for marks (document 01, 'Turned back').
-- Assumes nothing.
use Rattle.model.specs.declared.Refusal.{Refusal}
use Rattle.charging.specs.declared.ChargeError.{ChargeError}
use Rattle.std.specs.Prelude.{ℕ, cond, List, [], leb, length, Ok, Err}
use Rattle.charging.specs.Charge.{Charged, spend}
use Rattle.model.specs.Options.{Answer}
use Rattle.model.specs.declared.Answered.{Answered}
use Rattle.model.specs.Run.{Run, Mark, RegionState}

-- the values of an answer in the order of the report; a job is answered when the number is 0
pub record Summary : Type 0 where
  pub number : ℕ
  pub place : ℕ
  pub count : ℕ
  pub actual : ℕ
  pub marks : ℕ
  pub deferred : ℕ
  pub simplified : ℕ

-- an answer with the marks and the regions' bars that come with it
pub record Result : Type 0 where
  pub summary : Summary
  pub marks : List Mark
  pub states : List RegionState

unfoldable pub refusal : ℕ → ℕ → ℕ → ℕ → Summary
refusal number place count actual =
    record { number = number; place = place; count = count; actual = actual; marks = 0; deferred = 0; simplified = 0 }

unfoldable pub answer : ℕ → ℕ → ℕ → ℕ → Summary
answer count marks deferred simplified =
    record { number = 0; place = 0; count = count; actual = 0; marks = marks; deferred = deferred; simplified = simplified }

abbrev pub totals : ℕ → ℕ → ℕ → ℕ → Answered
totals count marks deferred simplified = record { count = count; marks = marks; deferred = deferred; simplified = simplified }

-- document 01's number and values for each case of the declared refusal
unfoldable pub refused_by : Refusal → Summary
refused_by (Refusal.LengthsDiffer count) = refusal 1 0 count 0
refused_by (Refusal.TooMany count) = refusal 2 0 count 0
refused_by (Refusal.OutOfBounds place count) = refusal 3 place count 0
refused_by (Refusal.NotRising place count) = refusal 4 place count 0
refused_by (Refusal.NameOutside place count) = refusal 5 place count 0
refused_by (Refusal.SpaceShort count) = refusal 6 0 count 0
refused_by (Refusal.LimitExceeded count actual) = refusal 7 0 count actual
refused_by (Refusal.CoordinateOverflow count) = refusal 8 0 count 0
refused_by (Refusal.MarksExceedSpace count actual) = refusal 9 0 count actual

unfoldable pub summary : Answer → Summary
summary (Ok a) = answer a.count a.marks a.deferred a.simplified
summary (Err r) = refused_by r

-- the refusal of a charge that is not accepted
abbrev pub not_charged : ChargeError → Refusal
not_charged (ChargeError.LimitExceeded c actual) = Refusal.LimitExceeded c.count actual
not_charged (ChargeError.CoordinateOverflow c) = Refusal.CoordinateOverflow c.count

-- a refusal comes with no marks and no bars
unfoldable pub refused : Summary → Result
refused s = record { summary = s; marks = []; states = [] }

unfoldable pub answered : ℕ → Run → Result
answered count r =
    record { summary = answer count (length r.marks) r.deferred r.simplified; marks = r.marks; states = r.states }

-- 7 and 8 as the charges end, and 9 only when all of them were accepted
unfoldable pub settled : ℕ → Run → Charged → Result
settled space r (Ok c) =
    cond (leb (length r.marks) space) (answered c.count r) (refused (refusal 9 0 c.count (length r.marks)))
settled space r (Err (ChargeError.LimitExceeded c actual)) = refused (refusal 7 0 c.count actual)
settled space r (Err (ChargeError.CoordinateOverflow c)) = refused (refusal 8 0 c.count 0)

-- a run from the count `start`, with a limit and space for so many marks
unfoldable pub limited : ℕ → ℕ → ℕ → Run → Result
limited limit start space r = settled space r (spend limit start r.charges)
