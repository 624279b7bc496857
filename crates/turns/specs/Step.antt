-- One rule up to its marks, by the columns that hold the regions and their stop flags: what it charges, what it says of each region, and
-- whether it counts as deferred and as simplified (document 01, 'Rules'). Assumes nothing.
use Rattle.std.specs.Prelude.{ℕ, zero, suc, Bool, true, false, cond, not, List, [], ◌∷◌, eqb, length, get_or, replicate, Ok, Err}
use Rattle.charging.specs.Charge.{Charged, one, and_then, spend}
use Rattle.model.specs.declared.Outcome.{Outcome}
use Rattle.model.specs.declared.Plan.{Plan}
use Rattle.model.specs.declared.Rule.{Rule}
use Rattle.model.specs.declared.Test.{Test}
use Rattle.model.specs.Sheet.{Sheet}
use Rattle.model.specs.Rule.{ahead, plan}
use Rattle.model.specs.Run.{RegionState, outcome, asked, is_unresolved}
use Rattle.cells.specs.Columns.{coordinate_at}
use Rattle.plans.specs.Plans.{tests_bar}

-- ---- the regions

-- a region whose stop flag is so; a bar has no part in an outcome
abbrev pub flagged : ℕ → RegionState
flagged flag = record { stopped = not (eqb flag 0); bar_rule = 0; bar_ppm = 0 }

-- the outcomes of the n regions from index i on, by the definition of a rule
unfoldable pub outcomes_from : Sheet → Rule → Test → List ℕ → List ℕ → List ℕ → ℕ → ℕ → List Outcome
outcomes_from s r t rows cols flags i zero = []
outcomes_from s r t rows cols flags i (suc n) =
    outcome s r t (coordinate_at rows cols i) (flagged (get_or flags i 0)) ∷ outcomes_from s r t rows cols flags (suc i) n

-- the outcomes that count, how many regions are charged, and whether the rule is given up
pub record Judged : Type 0 where
  pub outcomes : List Outcome
  pub asked : ℕ
  pub unresolved : Bool

abbrev pub judged_as : List Outcome → ℕ → Bool → Judged
judged_as outcomes asked unresolved = record { outcomes = outcomes; asked = asked; unresolved = unresolved }

-- an unresolved rule leaves no outcome
unfoldable pub judged_of : List Outcome → Judged
judged_of os = judged_as (cond (is_unresolved os) [] os) (asked os) (is_unresolved os)

-- a plan that is not tested asks no region; a deferred one is given up
unfoldable pub judged_in : Sheet → Rule → List ℕ → List ℕ → List ℕ → Plan → Judged
judged_in s r rows cols flags Plan.Deferred = judged_as [] 0 true
judged_in s r rows cols flags Plan.Skipped = judged_as [] 0 false
judged_in s r rows cols flags (Plan.Tested test) = judged_of (outcomes_from s r test rows cols flags 0 (length rows))

-- ---- the rule

-- what the charges come to, the outcomes, and 1 or 0 for a rule that counts as deferred and as simplified
pub record Step : Type 0 where
  pub charged : Charged
  pub outcomes : List Outcome
  pub deferred : ℕ
  pub simplified : ℕ

-- what the charges come to with those ahead of the regions
abbrev pub ahead_of_regions : Sheet → Rule → ℕ → Charged → Charged
ahead_of_regions s r limit charged = and_then charged (λ c. spend limit c (ahead s r))

-- a charge is refused: the charges alone
abbrev pub refused_step : Charged → Step
refused_step charged = record { charged = charged; outcomes = []; deferred = 0; simplified = 0 }

-- by what all charges came to
unfoldable pub said_step : Bool → Judged → Charged → Step
said_step bar judged (Ok c) =
    record {
      charged = Ok c;
      outcomes = judged.outcomes;
      deferred = cond judged.unresolved 1 0;
      simplified = cond bar 1 0;
    }
said_step bar judged (Err e) = refused_step (Err e)

-- the regions are charged at the count that the charges ahead of them left
abbrev pub step_from : ℕ → Bool → Judged → Charged → Step
step_from limit bar judged charged = said_step bar judged (and_then charged (λ c. spend limit c (replicate judged.asked one)))

-- `charged` is what the charges so far came to; `rows` and `cols` are the regions', `flags` says which of them are stopped
unfoldable pub step_of : Sheet → Rule → Charged → ℕ → List ℕ → List ℕ → List ℕ → Step
step_of s r charged limit rows cols flags =
    step_from limit (tests_bar (plan s r)) (judged_in s r rows cols flags (plan s r)) (ahead_of_regions s r limit charged)
