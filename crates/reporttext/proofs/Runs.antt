-- What a run leaves is small: regions below their number, rules below 64, kinds, ppms and shapes as painted, and at most as many rules
-- deferred and simplified as there are. Each bar comes with a mark at its region, so that what short numbers of regions spare the bars'
-- lines they spare the marks' lines too. Assumes nothing.
use Prim.Native.Nat.{ℕ, zero, suc, ◌+◌, ◌≤◌, ◌<◌}
use native.Mathlib.Omega.{arith}
use mathlib.Core.Path.{◌≡◌, refl}
use mathlib.Core.Bool.{Bool, true, false, cond, ◌&&◌}
use mathlib.Core.List.{List, [], ◌∷◌, ◌++◌}
use lib.Dec.{ltb, eqb}
use lib.ListN.{length, replicate}
use Rattle.charging.specs.Charge.{Charge}
use Rattle.model.specs.declared.CellCoordinate.{CellCoordinate}
use Rattle.model.specs.declared.Outcome.{Outcome}
use Rattle.model.specs.declared.Plan.{Plan}
use Rattle.model.specs.declared.Rule.{Rule}
use Rattle.model.specs.declared.Test.{Test}
use Rattle.model.specs.Sheet.{Sheet}
use Rattle.model.specs.Rule as Rule
use Rattle.model.specs.Run as Run
use Rattle.model.specs.Run.{Run, Mark, RegionState, IndexedRule}
use Rattle.reporttext.proofs.Painted.{SmallPaint, SmallOutcome, SmallOutcomes, small_outcomes}

-- ---- marks

-- of n regions
pub record SmallMark (n : ℕ) (m : Mark) : Type 0 where
  pub region : m.region < n
  pub rule : m.rule < 64
  pub paint : SmallPaint m.paint

abbrev pub SmallMarks : ℕ → List Mark → Type 0
SmallMarks n [] = Unit {0}
SmallMarks n (m ∷ ms) = SmallMark n m × SmallMarks n ms

small_marks : (n rule g : ℕ) (os : List Outcome) → rule < 64 → g + length os ≤ n → SmallOutcomes os
    → SmallMarks n (Run.marks_from rule g os)
unfolding Run.marks_from
small_marks n rule g [] h l o = tt
small_marks n rule g (Outcome.Stopped ∷ os) h l o = small_marks n rule (suc g) os h (omega arith) o.1
small_marks n rule g (Outcome.Passed ∷ os) h l o = small_marks n rule (suc g) os h (omega arith) o.1
small_marks n rule g (Outcome.Unresolved ∷ os) h l o = small_marks n rule (suc g) os h (omega arith) o.1
small_marks n rule g (Outcome.Painted p ∷ os) h l o =
    (record { region = omega arith; rule = h; paint = o.0 }, small_marks n rule (suc g) os h (omega arith) o.1)

pub small_append : (n : ℕ) (ms ns : List Mark) → SmallMarks n ms → SmallMarks n ns → SmallMarks n (ms ++ ns)
small_append n [] ns a b = b
small_append n (m ∷ ms) ns a b = (a.0, small_append n ms ns a.1 b)

-- ---- states

pub record SmallState (s : RegionState) : Type 0 where
  pub rule : s.bar_rule ≤ 64
  pub ppm : s.bar_ppm ≤ 1_000_000

abbrev pub SmallStates : List RegionState → Type 0
SmallStates [] = Unit {0}
SmallStates (s ∷ ss) = SmallState s × SmallStates ss

cond_most : (b : Bool) (x y most : ℕ) → x ≤ most → y ≤ most → cond b x y ≤ most
cond_most true x y most h k = h
cond_most false x y most h k = k

small_afterwards : (rule : ℕ) (stop : Bool) (s : RegionState) (o : Outcome) → rule < 64 → SmallState s → SmallOutcome o
    → SmallState (Run.afterwards rule stop s o)
unfolding Run.afterwards Run.painted
small_afterwards rule stop s Outcome.Stopped h a o = a
small_afterwards rule stop s Outcome.Passed h a o = a
small_afterwards rule stop s Outcome.Unresolved h a o = a
small_afterwards rule stop s (Outcome.Painted p) h a o =
    let first = Run.has_bar p && eqb s.bar_rule 0 in
    record {
      rule = cond_most first (suc rule) s.bar_rule 64 h a.rule;
      ppm = cond_most first p.ppm s.bar_ppm 1_000_000 o.ppm a.ppm;
    }

small_all : (rule : ℕ) (stop : Bool) (ss : List RegionState) (os : List Outcome) → rule < 64 → SmallStates ss → SmallOutcomes os
    → SmallStates (Run.all_afterwards rule stop ss os)
unfolding Run.all_afterwards
small_all rule stop [] os h a o = tt
small_all rule stop (s ∷ ss) [] h a o = a
small_all rule stop (s ∷ ss) (o ∷ os) h a p = (small_afterwards rule stop s o h a.0 p.0, small_all rule stop ss os h a.1 p.1)

pub small_untouched : (n : ℕ) → SmallStates (replicate n Run.untouched)
small_untouched zero = tt
small_untouched (suc n) = (record { rule = omega arith; ppm = omega arith }, small_untouched n)

-- ---- what short numbers of regions spare

-- how many digits fewer than four the number of a region has
unfoldable pub spare : ℕ → ℕ
spare g = cond (ltb g 10) 3 (cond (ltb g 100) 2 (cond (ltb g 1000) 1 0))

unfoldable pub marks_spare : List Mark → ℕ
marks_spare [] = 0
marks_spare (m ∷ ms) = spare m.region + marks_spare ms

unfoldable pub bar_spare : ℕ → RegionState → ℕ
bar_spare g s = cond (eqb s.bar_rule 0) 0 (spare g)

unfoldable pub bars_spare : ℕ → List RegionState → ℕ
bars_spare g [] = 0
bars_spare g (s ∷ ss) = bar_spare g s + bars_spare (suc g) ss

pub spare_append : (ms ns : List Mark) → marks_spare (ms ++ ns) ≡ marks_spare ms + marks_spare ns
unfolding marks_spare
spare_append [] ns = omega arith
spare_append (m ∷ ms) ns = omega (arith, spare_append ms ns)

bar_most : (g : ℕ) (s : RegionState) → bar_spare g s ≤ spare g
unfolding bar_spare
bar_most g s = cond_most (eqb s.bar_rule 0) 0 (spare g) (spare g) (omega arith) (omega arith)

-- a rule that gives a region its bar gives it a mark
paid : (rule : ℕ) (stop : Bool) (g : ℕ) (ss : List RegionState) (os : List Outcome)
    → bars_spare g (Run.all_afterwards rule stop ss os) ≤ bars_spare g ss + marks_spare (Run.marks_from rule g os)
unfolding Run.all_afterwards Run.afterwards Run.marks_from bars_spare marks_spare
paid rule stop g [] os = omega arith
paid rule stop g (s ∷ ss) [] = omega arith
paid rule stop g (s ∷ ss) (Outcome.Stopped ∷ os) = omega (arith, paid rule stop (suc g) ss os)
paid rule stop g (s ∷ ss) (Outcome.Passed ∷ os) = omega (arith, paid rule stop (suc g) ss os)
paid rule stop g (s ∷ ss) (Outcome.Unresolved ∷ os) = omega (arith, paid rule stop (suc g) ss os)
paid rule stop g (s ∷ ss) (Outcome.Painted p ∷ os) =
    omega (arith, paid rule stop (suc g) ss os, bar_most g (Run.painted rule stop s p))

pub unpaid : (g n : ℕ) → bars_spare g (replicate n Run.untouched) ≡ 0
unfolding bars_spare bar_spare
unpaid g zero = refl
unpaid g (suc n) = omega (arith, unpaid (suc g) n)

-- ---- a run

-- with n regions, from the states ss, of k rules
pub record SmallRun (n k : ℕ) (ss : List RegionState) (r : Run) : Type 0 where
  pub marks : SmallMarks n r.marks
  pub states : SmallStates r.states
  pub spared : bars_spare 0 r.states ≤ bars_spare 0 ss + marks_spare r.marks
  pub deferred : r.deferred ≤ k
  pub simplified : r.simplified ≤ k

small_unmarked : (n : ℕ) (charges : List Charge) (ss : List RegionState) (deferred simplified : ℕ) → SmallStates ss
    → deferred ≤ 1 → simplified ≤ 1 → SmallRun n 1 ss (Run.unmarked charges ss deferred simplified)
unfolding Run.unmarked marks_spare
small_unmarked n charges ss deferred simplified a h k =
    record { marks = tt; states = a; spared = omega arith; deferred = h; simplified = k }

outcomes_length : (s : Sheet) (r : Rule) (t : Test) (ats : List CellCoordinate) (states : List RegionState)
    → length (Run.outcomes s r t ats states) ≤ length ats
unfolding Run.outcomes
outcomes_length s r t [] states = omega arith
outcomes_length s r t (at ∷ ats) [] = omega arith
outcomes_length s r t (at ∷ ats) (state ∷ states) = omega (arith, outcomes_length s r t ats states)

module _ (n : ℕ) (i : IndexedRule) (low : i.index < 64) (ss : List RegionState) (a : SmallStates ss) where
  small_tested : (charges : List Charge) (simplified : ℕ) (os : List Outcome) → simplified ≤ 1 → length os ≤ n → SmallOutcomes os
      → SmallRun n 1 ss (Run.tested i charges simplified ss os)
  unfolding Run.tested
  small_tested charges simplified os h l o = go (Run.is_unresolved os)
    where
      all : List Charge
      all = charges ++ replicate (Run.asked os) Charge.one

      go : (b : Bool) → SmallRun n 1 ss (cond b (Run.unmarked all ss 1 simplified) (record {
        charges = all;
        marks = Run.marks_from i.index 0 os;
        states = Run.all_afterwards i.index i.rule.stop ss os;
        deferred = 0;
        simplified = simplified;
      }))
      go true = small_unmarked n all ss 1 simplified a (omega arith) h
      go false =
          record {
            marks = small_marks n i.index 0 os low (omega arith) o;
            states = small_all i.index i.rule.stop ss os low a o;
            spared = paid i.index i.rule.stop 0 ss os;
            deferred = omega arith;
            simplified = h;
          }

  pub small_step : (s : Sheet) → length s.regions ≤ n → SmallRun n 1 ss (Run.step s i ss)
  unfolding Run.step Run.carried_out
  small_step s l = go (Rule.plan s i.rule)
    where
      simple : ℕ
      simple = cond (Rule.is_simplified s i.rule) 1 0

      one_most : simple ≤ 1
      one_most = cond_most (Rule.is_simplified s i.rule) 1 0 1 (omega arith) (omega arith)

      go : (p : Plan) → SmallRun n 1 ss (Run.carried_out s i simple ss p)
      go Plan.Deferred = small_unmarked n _ ss 1 simple a (omega arith) one_most
      go Plan.Skipped = small_unmarked n _ ss 0 simple a (omega arith) one_most
      go (Plan.Tested t) =
          small_tested (Rule.ahead s i.rule) simple (Run.outcomes s i.rule t s.regions ss) one_most
          (omega (arith, outcomes_length s i.rule t s.regions ss)) (small_outcomes s i.rule t s.regions ss)
