-- Where all regions are stopped, each outcome says so. Such outcomes leave nothing unresolved, ask no region and paint none. Assumes
-- nothing.
use Prim.Native.Nat.{ℕ, zero, suc}
use mathlib.Core.Path.{◌≡◌, refl, ap}
use mathlib.Core.Bool.{Bool, true, false, cond, not}
use mathlib.Core.List.{List, [], ◌∷◌}
use lib.Dec.{eqb}
use lib.Ieee.{Float}
use lib.ListN.{get_or, replicate}
use Rattle.model.specs.declared.Outcome.{Outcome}
use Rattle.model.specs.declared.Rule.{Rule}
use Rattle.model.specs.declared.Test.{Test}
use Rattle.model.specs.Sheet.{Sheet}
use Rattle.model.specs.Run.{outcome, asked, is_unresolved, marks_from}
use Rattle.hits.specs.Hits.{hits_from, live_from}
use Rattle.turns.specs.Step.{outcomes_from, judged_as, judged_of}
use Rattle.turns.specs.Emit.{BarColumns, draw_bar, draw_bars, Paints}
use Rattle.turns.proofs.Painted.{none_paint}

-- ---- outcomes that are all stopped

abbrev pub stopped : ℕ → List Outcome
stopped n = replicate n Outcome.Stopped

stopped_resolved : (n : ℕ) → is_unresolved (stopped n) ≡ false
unfolding is_unresolved
stopped_resolved zero = refl
stopped_resolved (suc n) = stopped_resolved n

stopped_asked : (n : ℕ) → asked (stopped n) ≡ 0
unfolding asked
stopped_asked zero = refl
stopped_asked (suc n) = stopped_asked n

pub stopped_judged : (n : ℕ) → judged_of (stopped n) ≡ judged_as (stopped n) 0 false
unfolding judged_of
stopped_judged n = rw (stopped_resolved n, stopped_asked n)

pub stopped_hits : (i n : ℕ) → hits_from i (stopped n) ≡ []
unfolding hits_from
stopped_hits i zero = refl
stopped_hits i (suc n) = stopped_hits (suc i) n

stopped_marks : (rule i n : ℕ) → marks_from rule i (stopped n) ≡ []
unfolding marks_from
stopped_marks rule i zero = refl
stopped_marks rule i (suc n) = stopped_marks rule (suc i) n

stopped_bars : (rule i n : ℕ) (c : BarColumns) → draw_bars rule i (stopped n) c ≡ c
unfolding draw_bars draw_bar
stopped_bars rule i zero c = refl
stopped_bars rule i (suc n) c = stopped_bars rule (suc i) n c

pub stopped_paint : (t : Test) (imported : Bool) (values : List Float) (n : ℕ) → Paints t imported values (stopped n)
unfolding draw_bars hits_from
stopped_paint t imported values n =
    record {
      marks = λ rule. rw (stopped_marks rule 0 n, stopped_hits 0 n);
      bars = λ rule c. rw (stopped_bars rule 0 n c, stopped_hits 0 n) ((none_paint t imported values).bars rule c);
    }

-- ---- where no region is left

module _ (s : Sheet) (r : Rule) (t : Test) (rows cols flags : List ℕ) where
  pub none_live : (i n : ℕ) → live_from flags i n ≡ 0 → outcomes_from s r t rows cols flags i n ≡ stopped n
  unfolding outcomes_from outcome live_from
  none_live i zero none = refl
  none_live i (suc n) none = go (eqb (get_or flags i 0) 0) _ (none_live (suc i) n) none
    where
      go : (live : Bool) (o : Outcome) {later : ℕ} {os : List Outcome} → (later ≡ 0 → os ≡ stopped n)
          → cond live (suc later) later ≡ 0 → cond (not live) Outcome.Stopped o ∷ os ≡ stopped (suc n)
      go true o rest none = cc
      go false o rest none = ap (λ (os : List Outcome). Outcome.Stopped ∷ os) (rest none)
