-- What a rule is found to say is the definition's step of the rule: the charges, and where they are accepted the outcomes that give its
-- marks and the states of the regions, and whether it counts as deferred and as simplified; nothing where a charge is refused. Assumes
-- nothing.
use Rattle.charging.specs.declared.ChargeError.{ChargeError}
use Rattle.std.specs.Prelude.{Ok, Err}
use Prim.Native.Nat.{ℕ, ◌≤◌}
use native.Mathlib.Omega.{arith}
use mathlib.Core.Path.{◌≡◌, refl, sym, ap, ◌∙◌}
use mathlib.Core.Bool.{Bool, true, false, cond}
use mathlib.Core.List.{List}
use lib.ListN.{length, replicate}
use Rattle.charging.specs.declared.Counter.{Counter}
use Rattle.charging.specs.Charge.{Charged, one, and_then, spend}
use Rattle.model.specs.declared.Plan.{Plan}
use Rattle.model.specs.declared.Rule.{Rule}
use Rattle.model.specs.Sheet.{Sheet, regions_from}
use Rattle.model.specs.Rule.{ahead, plan, is_simplified}
use Rattle.model.specs.Run.{RegionState, IndexedRule, marks_from, all_afterwards, step}
use Rattle.plans.specs.Plans.{tests_bar}
use Rattle.plans.proofs.Laws.{simplified_tests_bar}
use Rattle.turns.specs.Step.{Judged, judged_in, Step, ahead_of_regions, refused_step, said_step, step_from, step_of}
use Rattle.turns.proofs.Charges.{spend_in_two}
use Rattle.turns.proofs.Judging.{StoppedBy, Judges, judges}

-- ---- by what the charges came to

pub cond_few : (b : Bool) → cond b 1 0 ≤ 1
cond_few true = omega arith
cond_few false = omega arith

module _ (bar : Bool) (j : Judged) where
  pub said_charged : (x : Charged) → (said_step bar j x).charged ≡ x
  unfolding said_step
  said_charged (Ok c) = refl
  said_charged (Err e) = refl

  pub record Told (r : Step) : Type 0 where
    pub outcomes : r.outcomes ≡ j.outcomes
    pub deferred : r.deferred ≡ cond j.unresolved 1 0
    pub simplified : r.simplified ≡ cond bar 1 0

  -- outcomes are told where all charges are accepted
  pub said_within : (x : Charged) (c : Counter) → (said_step bar j x).charged ≡ Ok c → Told (said_step bar j x)
  unfolding said_step
  said_within (Ok n) c h = record { outcomes = refl; deferred = refl; simplified = refl }
  said_within (Err e) c h = absurd (let no : ◌≡◌ {A = ℕ} 0 1 = cc in omega arith)

  pub said_once : (x : Charged) → ((said_step bar j x).deferred ≤ 1) × ((said_step bar j x).simplified ≤ 1)
  unfolding said_step
  said_once (Ok c) = (cond_few j.unresolved, cond_few bar)
  said_once (Err e) = (omega arith, omega arith)

-- the plan counts only where the charges ahead of the regions are accepted
pub by_alike : (limit : ℕ) (judge : Plan → Judged) (p q : Plan) (ch : Charged) → ((c : Counter) → ch ≡ Ok c → p ≡ q)
    → step_from limit (tests_bar p) (judge p) ch ≡ step_from limit (tests_bar q) (judge q) ch
unfolding said_step and_then
by_alike limit judge p q (Ok c) h = rw (h c refl)
by_alike limit judge p q (Err e) h = refl

-- ---- the rule by its parts

module _ (s : Sheet) (r : Rule) (limit : ℕ) (rows cols flags : List ℕ) where
  pub step_by_parts : (charged ch : Charged) (p : Plan) → ch ≡ ahead_of_regions s r limit charged
      → ((c : Counter) → ch ≡ Ok c → p ≡ plan s r)
      → step_from limit (tests_bar p) (judged_in s r rows cols flags p) ch ≡ step_of s r charged limit rows cols flags
  unfolding step_of
  step_by_parts charged ch p is planned =
      by_alike limit (judged_in s r rows cols flags) p (plan s r) ch planned
      ∙ ap (λ (x : Charged). step_from limit (tests_bar (plan s r)) (judged_in s r rows cols flags (plan s r)) x) is

  -- a rule counts once
  pub step_once : (charged : Charged) → let x = step_of s r charged limit rows cols flags in (x.deferred ≤ 1) × (x.simplified ≤ 1)
  unfolding step_of
  step_once charged = said_once _ _ _

  -- nothing more is said or charged once a charge was refused
  pub step_refused : (e : ChargeError) → step_of s r (Err e) limit rows cols flags ≡ refused_step (Err e)
  unfolding step_of said_step and_then
  step_refused e = refl

-- ---- the rule by the definition

-- `given` are the states that the rules so far left
pub record Says (s : Sheet) (i : IndexedRule) (given : List RegionState) (r : Step) : Type 0 where
  pub short : length r.outcomes ≤ length given
  pub marks : (step s i given).marks ≡ marks_from i.index 0 r.outcomes
  pub states : (step s i given).states ≡ all_afterwards i.index i.rule.stop given r.outcomes
  pub deferred : (step s i given).deferred ≡ r.deferred
  pub simplified : (step s i given).simplified ≡ r.simplified

-- `before` is what the charges so far came to
pub record Stepped (s : Sheet) (i : IndexedRule) (given : List RegionState) (limit : ℕ) (before : Charged) (r : Step) : Type 0 where
  pub charged : r.charged ≡ and_then before (λ c. spend limit c (step s i given).charges)
  pub says : (c : Counter) → r.charged ≡ Ok c → Says s i given r

-- the flags say which regions are stopped
module _ (s : Sheet) (i : IndexedRule) (rows cols flags : List ℕ) (regions : s.regions ≡ regions_from rows cols 0 (length rows))
    (given : List RegionState) (stopped : StoppedBy flags 0 (length rows) given) where
  abbrev judged : Judged
  judged = judged_in s i.rule rows cols flags (plan s i.rule)

  abbrev barred : Bool
  barred = tests_bar (plan s i.rule)

  judges_step : Judges i (ahead s i.rule) given (cond (is_simplified s i.rule) 1 0) (step s i given) judged
  unfolding step
  judges_step = judges s i rows cols flags regions (cond (is_simplified s i.rule) 1 0) given stopped (plan s i.rule)

  says_told : (r : Step) → Told barred judged r → Says s i given r
  says_told r t =
      let j = judges_step in
      record {
        short = rw t.outcomes j.short;
        marks = rw t.outcomes j.marks;
        states = rw t.outcomes j.states;
        deferred = j.deferred ∙ sym t.deferred;
        simplified = j.simple ∙ ap (λ (b : Bool). cond b 1 0) (simplified_tests_bar s i.rule) ∙ sym t.simplified;
      }

  pub step_stepped : (limit : ℕ) (before : Charged) → Stepped s i given limit before (step_of s i.rule before limit rows cols flags)
  unfolding step_of
  step_stepped limit before =
      let x = and_then (ahead_of_regions s i.rule limit before) (λ c. spend limit c (replicate judged.asked one)) in
      record {
        charged = rw judges_step.charged
            (said_charged barred judged x ∙ sym (spend_in_two limit before (ahead s i.rule) (replicate judged.asked one)));
        says = λ c h. says_told (said_step barred judged x) (said_within barred judged x c h);
      }
