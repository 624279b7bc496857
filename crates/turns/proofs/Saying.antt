-- What is said of each rule of a job is the definition's, and once a charge was refused nothing more is charged; a rule counts once.
-- Assumes nothing.
use Prim.Native.Nat.{ℕ, ◌≤◌}
use mathlib.Core.Path.{◌≡◌, refl, ap}
use mathlib.Core.List.{List}
use Rattle.charging.specs.Charge.{Charged}
use Rattle.model.specs.declared.Rule.{Rule}
use Rattle.model.specs.Sheet.{Sheet}
use Rattle.model.specs.Job.{Job, region_count}
use Rattle.turns.specs.Step.{Step, step_of}
use Rattle.turns.specs.Turns.{sheet_in, say_in}
use Rattle.turns.proofs.Stepping.{step_stepped, step_once, step_refused}
use Rattle.turns.proofs.Laws.{Saying}

-- a rule counts once
pub record Few (said : Step) : Type 0 where
  pub deferred : said.deferred ≤ 1
  pub simplified : said.simplified ≤ 1

pub step_few : (s : Sheet) (r : Rule) (charged : Charged) (limit : ℕ) (rows cols flags : List ℕ) (said : Step)
    → said ≡ step_of s r charged limit rows cols flags → Few said
step_few s r charged limit rows cols flags said e =
    let once = step_once s r limit rows cols flags charged in
    rw e (record { deferred = once.0; simplified = once.1 })

pub says_in : (j : Job) (limit : ℕ) → let s = sheet_in j.cells j.region_rows j.region_cols j.pool j.name in
    Saying s limit (region_count j) (say_in s limit j.region_rows j.region_cols)
says_in j limit =
    let s = sheet_in j.cells j.region_rows j.region_cols j.pool j.name in
    record {
      steps = λ i states charged flags h.
          step_stepped s i j.region_rows j.region_cols flags refl states h limit charged;
      refused = λ r e flags. ap (λ (x : Step). x.charged) (step_refused s r limit j.region_rows j.region_cols flags e);
    }
