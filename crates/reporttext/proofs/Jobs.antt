-- What an answered job leaves is small: at most 1,024 regions and 64 rules, and the marks and states of its run as in Runs.antt.
-- Assumes nothing.
use Prim.Native.Nat.{ℕ, suc, ◌+◌, ◌≤◌, ◌<◌}
use native.Mathlib.Omega.{arith}
use mathlib.Core.Path.{◌≡◌, refl, ap, ◌∙◌}
use mathlib.Core.Bool.{Bool, true, false, cond, ◌||◌}
use mathlib.Core.List.{List, [], ◌∷◌}
use mathlib.Core.Option.{Option, none, some}
use lib.Dec.{ltb}
use lib.ListN.{length, replicate, length-take}
use borrow.Author.Tests.{ltb-false}
use Rattle.model.specs.declared.Rule.{Rule}
use Rattle.model.specs.Sheet.{Sheet}
use Rattle.model.specs.Sorting.{insert, sort_by}
use Rattle.model.specs.Run as Run
use Rattle.model.specs.Run.{Run, RegionState, IndexedRule}
use Rattle.model.specs.Answer.{Summary}
use Rattle.model.specs.Job.{Job, cell_count, region_count, too_many, refuse_if, first_of, malformed, sheet_of, rules_of, run_of}
use Rattle.laws.proofs.Lengths.{run_states, regions_length}
use Rattle.laws.proofs.Sorting.{sort_by_length}
use Rattle.reporttext.proofs.Runs.{SmallStates, SmallRun, marks_spare, small_append, small_untouched, spare_append, unpaid}
use Rattle.reporttext.proofs.Runs.{small_step}

-- ---- rules in their order

abbrev LowRules : List IndexedRule → Type 0
LowRules [] = Unit {0}
LowRules (i ∷ is) = (i.index < 64) × LowRules is

low_indexed : (index : ℕ) (rs : List Rule) → index + length rs ≤ 64 → LowRules (Run.indexed_from index rs)
unfolding Run.indexed_from
low_indexed index [] h = tt
low_indexed index (r ∷ rs) h = (omega arith, low_indexed (suc index) rs (omega arith))

low_insert : (i : IndexedRule) (is : List IndexedRule) → i.index < 64 → LowRules is → LowRules (insert Run.earlier i is)
unfolding insert
low_insert i [] h a = (h, tt)
low_insert i (j ∷ js) h a = go (Run.earlier j i) (low_insert i js h a.1)
  where
    go : (b : Bool) → LowRules (insert Run.earlier i js) → LowRules (cond b (j ∷ insert Run.earlier i js) (i ∷ j ∷ js))
    go true p = (a.0, p)
    go false p = (h, a)

low_sorted : (is : List IndexedRule) → LowRules is → LowRules (sort_by Run.earlier is)
unfolding sort_by
low_sorted [] a = tt
low_sorted (i ∷ is) a = low_insert i (sort_by Run.earlier is) a.0 (low_sorted is a.1)

indexed_length : (index : ℕ) (rs : List Rule) → length (Run.indexed_from index rs) ≡ length rs
unfolding Run.indexed_from
indexed_length index [] = refl
indexed_length index (r ∷ rs) = ap suc (indexed_length (suc index) rs)

-- ---- a run

module _ (n : ℕ) (s : Sheet) (l : length s.regions ≤ n) where
  small_followed : {k : ℕ} {ss : List RegionState} (a b : Run) → SmallRun n 1 ss a → SmallRun n k a.states b
      → SmallRun n (suc k) ss (Run.followed_by a b)
  unfolding Run.followed_by
  small_followed a b p q =
      record {
        marks = small_append n a.marks b.marks p.marks q.marks;
        states = q.states;
        spared = omega (arith, p.spared, q.spared, spare_append a.marks b.marks);
        deferred = omega (arith, p.deferred, q.deferred);
        simplified = omega (arith, p.simplified, q.simplified);
      }

  small_from : (is : List IndexedRule) (ss : List RegionState) → LowRules is → SmallStates ss
      → SmallRun n (length is) ss (Run.run_from s is ss)
  unfolding Run.run_from Run.unmarked marks_spare
  small_from [] ss low a = record { marks = tt; states = a; spared = omega arith; deferred = omega arith; simplified = omega arith }
  small_from (i ∷ is) ss low a =
      let first = small_step n i low.0 ss a s l in
      small_followed (Run.step s i ss) (Run.run_from s is (Run.step s i ss).states) first
      (small_from is (Run.step s i ss).states low.1 first.states)

  small_run : (rs : List Rule) → length rs ≤ 64
      → SmallRun n (length rs) (replicate (length s.regions) Run.untouched) (Run.run s rs)
  unfolding Run.run Run.ordered
  small_run rs h =
      let is = sort_by Run.earlier (Run.indexed_from 0 rs) in
      let long : length is ≡ length rs = sort_by_length Run.earlier (Run.indexed_from 0 rs) ∙ indexed_length 0 rs in
      let small = small_from is (replicate (length s.regions) Run.untouched)
      (low_sorted (Run.indexed_from 0 rs) (low_indexed 0 rs (omega arith))) (small_untouched (length s.regions)) in
      rw long at small

-- ---- a job that is well-formed

second_none : (a : Option Summary) (met : Bool) (s : Summary) (cs : List (Option Summary))
    → first_of (a ∷ cond met (some s) none ∷ cs) ≡ none → met ≡ false
unfolding first_of
second_none none false s cs h = refl
second_none none true s cs h = absurd (let no : ◌≡◌ {A = ℕ} 0 1 = cc in omega arith)
second_none (some x) met s cs h = absurd (let no : ◌≡◌ {A = ℕ} 0 1 = cc in omega arith)

none_over : (a b c d : Bool) → a || b || c || d ≡ false → (a ≡ false) × (b ≡ false) × (c ≡ false)
none_over false false false d h = (refl, refl, refl)
none_over false false true d h = absurd (let no : ◌≡◌ {A = ℕ} 0 1 = cc in omega arith)
none_over false true c d h = absurd (let no : ◌≡◌ {A = ℕ} 0 1 = cc in omega arith)
none_over true b c d h = absurd (let no : ◌≡◌ {A = ℕ} 0 1 = cc in omega arith)

-- the counts of a job that check 2 lets pass
pub record Few (j : Job) : Type 0 where
  pub cells : cell_count j ≤ 1024
  pub regions : region_count j ≤ 1024
  pub rules : j.rules.number ≤ 64

-- the marks, states and numbers of a run that a report prints
pub record SmallJob (r : Run) : Type 0 where
  pub run : SmallRun 1024 64 [] r
  pub states : length r.states ≤ 1024

module _ (j : Job) (well_formed : malformed j ≡ none) where
  pub well_formed_few : Few j
  unfolding malformed refuse_if too_many
  well_formed_few =
      let under = none_over (ltb 1024 (cell_count j)) (ltb 1024 (region_count j)) (ltb 64 j.rules.number) (ltb 65_536 (length j.pool))
      (second_none _ (too_many j) _ _ well_formed) in
      record {
        cells = ltb-false 1024 (cell_count j) under.0;
        regions = ltb-false 1024 (region_count j) under.1;
        rules = ltb-false 64 j.rules.number under.2;
      }

  pub small_job : SmallJob (run_of j)
  unfolding run_of sheet_of rules_of
  small_job =
      let few = well_formed_few in
      let n : length (sheet_of j).regions ≡ region_count j = regions_length j.region_rows j.region_cols 0 (region_count j) in
      let rules : length (rules_of j) ≤ 64 = omega (arith, few.rules, length-take j.rules.number j.rules.records) in
      let r = small_run 1024 (sheet_of j) (omega (arith, few.regions)) (rules_of j) rules in
      record {
        run = record {
          marks = r.marks;
          states = r.states;
          spared = omega (arith, r.spared, unpaid 0 (length (sheet_of j).regions));
          deferred = omega (arith, r.deferred);
          simplified = omega (arith, r.simplified);
        };
        states = omega (arith, few.regions, run_states (sheet_of j) (rules_of j));
      }
