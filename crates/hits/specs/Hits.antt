-- The regions that a test paints, by what is known of each region ahead of it: the number of its cell, the numbers that the operands read
-- as from it, and how many cells in range have its key, each a column. The regions stand in rows of the range, so that only their columns
-- are compared. Assumes nothing.
use Rattle.std.specs.Prelude.{ℕ, zero, suc, ◌+◌, ◌-◌, ◌<◌, ◌≡◌, Bool, false, cond, not, ◌&&◌, ◌||◌, List, [], ◌∷◌, leb, ltb, eqb, Float, length, get_or, Option, Some, None}
use Rattle.std.specs.Float.{nan}
use Rattle.model.specs.declared.ConditionalOperand.{ConditionalOperand}
use Rattle.model.specs.declared.Outcome.{Outcome}
use Rattle.model.specs.declared.Range.{Range}
use Rattle.model.specs.Options.{Reading}
use Rattle.model.specs.declared.Test.{Test}
use Rattle.model.specs.Readings.{finite}
use Rattle.model.specs.References.{literal}
use Rattle.model.specs.Comparison.{uses_second}
use Rattle.model.specs.Run.{is_unresolved}
use Rattle.hits.specs.declared.Found.{Found}
use Rattle.hits.specs.Verdict.{first_operand, second_operand, verdict_on}
use Rattle.hits.specs.Said.{reading_of, byte_of}

-- ---- what is known of the regions

pub record Known : Type 0 where
  pub values : List Float
  pub firsts : List Float
  pub seconds : List Float
  pub founds : List ℕ

abbrev pub known : List Float → List Float → List Float → List ℕ → Known
known values firsts seconds founds = record { values = values; firsts = firsts; seconds = seconds; founds = founds }

-- a literal that counts as read
unfoldable pub is_literal : ConditionalOperand → Bool
is_literal (ConditionalOperand.Literal x) = finite x
is_literal (ConditionalOperand.Reference f) = false
is_literal ConditionalOperand.Unread = false

unfoldable pub literal_of : ConditionalOperand → Reading
literal_of (ConditionalOperand.Literal x) = literal x
literal_of (ConditionalOperand.Reference f) = None
literal_of ConditionalOperand.Unread = None

-- a cell-is test whose operands are literals, as far as it uses them: no column is looked at for them
unfoldable pub by_literals : Test → Bool
by_literals (Test.CellIs op first second fill) = is_literal first && (is_literal second || not (uses_second op))
by_literals (Test.ColorScale2 min max low high) = false
by_literals (Test.ColorScale3 min mid max low middle high) = false
by_literals (Test.DataBar color low high) = false
by_literals (Test.TopBottom bottom bound fill) = false
by_literals (Test.AboveAverage below bound fill) = false
by_literals (Test.DuplicateValues unique fill) = false
by_literals (Test.Expression op left right fill) = false

abbrev pub number_at : List Float → ℕ → Reading
number_at xs i = reading_of (get_or xs i nan)

abbrev pub first_at : Known → Test → ℕ → Reading
first_at k t i = cond (by_literals t) (literal_of (first_operand t)) (number_at k.firsts i)

abbrev pub second_at : Known → Test → ℕ → Reading
second_at k t i = cond (by_literals t) (literal_of (second_operand t)) (number_at k.seconds i)

-- ---- what a test says of the regions

-- of a region in range
unfoldable pub verdict_by : Known → Test → Bool → ℕ → Outcome
verdict_by k t imported i = verdict_on t imported (number_at k.values i) (first_at k t i) (second_at k t i) (get_or k.founds i 0)

-- whether a column is one of the range's
unfoldable pub column_in : Range → ℕ → Bool
column_in range col = leb range.left col && leb col range.right

-- of a region whose row is one of the range's, with its stop flag
unfoldable pub outcome_by : Known → Range → Test → Bool → List ℕ → List ℕ → ℕ → Outcome
outcome_by k range t imported cols flags i =
    let found = verdict_by k t imported i in
    cond (not (eqb (get_or flags i 0) 0)) Outcome.Stopped (cond (column_in range (get_or cols i 0)) found Outcome.Passed)

-- of the n regions from index i on
unfoldable pub outcomes_by : Known → Range → Test → Bool → List ℕ → List ℕ → ℕ → ℕ → List Outcome
outcomes_by k range t imported cols flags i zero = []
outcomes_by k range t imported cols flags i (suc n) =
    outcome_by k range t imported cols flags i ∷ outcomes_by k range t imported cols flags (suc i) n

-- the bytes of n regions from index i on are what the test says of them
abbrev pub Says : List ℕ → Known → Test → Bool → ℕ → ℕ → Type 0
Says said k t imported i n = (j : ℕ) → j < n → get_or said j 0 ≡ byte_of (verdict_by k t imported (i + j))

-- ---- the regions that it paints

-- the places of the painted ones, counted from i on
unfoldable pub hits_from : ℕ → List Outcome → List ℕ
hits_from i [] = []
hits_from i (Outcome.Stopped ∷ os) = hits_from (suc i) os
hits_from i (Outcome.Passed ∷ os) = hits_from (suc i) os
hits_from i (Outcome.Unresolved ∷ os) = hits_from (suc i) os
hits_from i (Outcome.Painted p ∷ os) = i ∷ hits_from (suc i) os

-- none where the test is unresolved
unfoldable pub hits_of : ℕ → List Outcome → List ℕ
hits_of i os = cond (is_unresolved os) [] (hits_from i os)

-- where the first unresolved one stands, counted from i on; past the last where there is none
unfoldable pub unresolved_from : ℕ → List Outcome → ℕ
unresolved_from i [] = i
unresolved_from i (Outcome.Stopped ∷ os) = unresolved_from (suc i) os
unresolved_from i (Outcome.Passed ∷ os) = unresolved_from (suc i) os
unresolved_from i (Outcome.Unresolved ∷ os) = i
unresolved_from i (Outcome.Painted p ∷ os) = unresolved_from (suc i) os

-- how many regions are not stopped, of the n from index i on
unfoldable pub live_from : List ℕ → ℕ → ℕ → ℕ
live_from flags i zero = 0
live_from flags i (suc n) = let later = live_from flags (suc i) n in cond (eqb (get_or flags i 0) 0) (suc later) later

-- the regions from `from` up to `to` are at most 1,024, each has a stop flag, a column and an entry of each table, and there is room for
-- one hit more than those
abbrev pub fits_hits : ℕ → ℕ → Known → List ℕ → List ℕ → ℕ → Bool
fits_hits from to k cols flags room =
    leb from to && leb to 1024 && ltb (to - from) room && leb to (length cols) && leb to (length flags) && leb to (length k.values)
    && leb to (length k.firsts) && leb to (length k.seconds) && leb to (length k.founds)

-- the region that leaves the test unresolved, if one does, and how many it paints
unfoldable pub found_among : ℕ → List Outcome → Found
found_among from os =
    record { unresolved = cond (is_unresolved os) (Some (unresolved_from from os)) None; count = length (hits_of from os) }

-- nothing where the tables do not fit
unfoldable pub found_in : Bool → ℕ → List Outcome → Option Found
found_in fits from os = cond fits (Some (found_among from os)) None
