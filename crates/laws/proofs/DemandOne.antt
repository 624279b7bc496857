-- Demand 1 of the definition: every column is 0 from end to end after a refusal, holds the whole result else, and keeps its length.
-- Assumes nothing.
use Prim.Native.Nat.{ℕ, ◌≤◌}
use native.Mathlib.Omega.{arith}
use mathlib.Core.Path.{◌≡◌, refl, sym, ap, ◌∙◌}
use mathlib.Core.Logic.{⊎_elim}
use mathlib.Core.Bool.{Bool, true, false, cond, ◌||◌}
use mathlib.Core.Option.{none, some}
use lib.Dec.{ltb}
use lib.ListN.{length, replicate, length-replicate}
use borrow.Author.Tests.{ltb-false}
use Rattle.model.specs.Ratio.{zero_f}
use Rattle.model.specs.Run.{Mark, RegionState}
use Rattle.model.specs.Answer.{Summary, Result, refusal, refused, answer, answered}
use Rattle.model.specs.Job.{Job, Lengths, mark_space, region_count, cell_count, space_short, refuse_if, sheet_of, rules_of, run_of, result}
use Rattle.model.specs.Columns.{written, columns_of}
use Rattle.laws.specs.Demands.{Answered, Roomy, reached, zeros, lengths_of, DemandOne}
use Rattle.laws.proofs.Lengths.{run_states, regions_length, column_length, column_none}
use Rattle.laws.proofs.Results.{WholeJob, Refused, result_is}

-- nothing in the result is nothing but zeros in the columns
pub written_none : (s : Summary) (l : Lengths) → written (refused s) l ≡ zeros l
unfolding written refused zeros
written_none s l = λ i.
    record {
      regions = column_none l.regions (λ (m : Mark). m.region) i;
      rules = column_none l.rules (λ (m : Mark). m.rule) i;
      kinds = column_none l.kinds (λ (m : Mark). m.paint.kind) i;
      colours = column_none l.colours (λ (m : Mark). m.paint.colour) i;
      ppms = column_none l.ppms (λ (m : Mark). m.paint.ppm) i;
      shapes = column_none l.shapes (λ (m : Mark). m.paint.shape) i;
      bar_rules = column_none l.bar_rules (λ (s : RegionState). s.bar_rule) i;
      bar_ppms = column_none l.bar_ppms (λ (s : RegionState). s.bar_ppm) i;
      scratch = replicate l.scratch zero_f;
    }

-- columns with space for all marks and bars keep their lengths
written_lengths : (r : Result) (l : Lengths) → length r.marks ≤ mark_space l
    → length r.states ≤ l.bar_rules → length r.states ≤ l.bar_ppms
    → lengths_of (written r l) ≡ l
unfolding written mark_space
written_lengths r l m b p = λ i.
    record {
      regions = column_length l.regions (λ (m : Mark). m.region) r.marks (omega arith) i;
      rules = column_length l.rules (λ (m : Mark). m.rule) r.marks (omega arith) i;
      kinds = column_length l.kinds (λ (m : Mark). m.paint.kind) r.marks (omega arith) i;
      colours = column_length l.colours (λ (m : Mark). m.paint.colour) r.marks (omega arith) i;
      ppms = column_length l.ppms (λ (m : Mark). m.paint.ppm) r.marks (omega arith) i;
      shapes = column_length l.shapes (λ (m : Mark). m.paint.shape) r.marks (omega arith) i;
      bar_rules = column_length l.bar_rules (λ (s : RegionState). s.bar_rule) r.states b i;
      bar_ppms = column_length l.bar_ppms (λ (s : RegionState). s.bar_ppm) r.states p i;
      scratch = length-replicate l.scratch zero_f i;
    }

-- what the check 6 leaves
pub record Spaces (j : Job) (l : Lengths) : Type 0 where
  pub bar_rules : region_count j ≤ l.bar_rules
  pub bar_ppms : region_count j ≤ l.bar_ppms
  pub scratch : cell_count j ≤ l.scratch

pub roomy_spaces : (j : Job) (l : Lengths) → Roomy j l → Spaces j l
unfolding space_short refuse_if
roomy_spaces j l = go (ltb l.bar_rules (region_count j)) (ltb l.bar_ppms (region_count j)) (ltb l.scratch (cell_count j)) refl refl refl
  where
    go : (a b c : Bool) → ltb l.bar_rules (region_count j) ≡ a → ltb l.bar_ppms (region_count j) ≡ b → ltb l.scratch (cell_count j) ≡ c
        → cond (a || b || c) (some (refusal 6 0 j.start 0)) none ≡ none → Spaces j l
    go false false false p q r h = record { bar_rules = ltb-false _ _ p; bar_ppms = ltb-false _ _ q; scratch = ltb-false _ _ r }
    go false false true p q r h = absurd (let no : ◌≡◌ {A = ℕ} 0 1 = cc in omega arith)
    go false true c p q r h = absurd (let no : ◌≡◌ {A = ℕ} 0 1 = cc in omega arith)
    go true b c p q r h = absurd (let no : ◌≡◌ {A = ℕ} 0 1 = cc in omega arith)

module _ (j : Job) (limit : ℕ) (l : Lengths) where
  -- a job's run has a state for each region
  pub states_length : length (run_of j).states ≡ region_count j
  unfolding run_of sheet_of
  states_length = run_states (sheet_of j) (rules_of j) ∙ regions_length j.region_rows j.region_cols 0 (region_count j)

  pub whole_columns : WholeJob j limit l → columns_of j limit l ≡ written (answered (reached j) (run_of j)) l
  unfolding columns_of
  whole_columns w = ap (λ (r : Result). written r l) w.run.is

  refused_columns : Refused (result j limit l) → columns_of j limit l ≡ zeros l
  unfolding columns_of
  refused_columns r = ap (λ (x : Result). written x l) r.is ∙ written_none r.why l

  whole_answered : WholeJob j limit l → Answered j limit l
  unfolding answered answer
  whole_answered w = ap (λ (r : Result). r.summary.number) w.run.is

  pub refused_unanswered : Refused (result j limit l) → Answered j limit l → ⊥
  unfolding refused
  refused_unanswered r z = r.number (ap (λ (x : Result). x.summary.number) (sym r.is) ∙ z)

  whole_lengths : WholeJob j limit l → lengths_of (columns_of j limit l) ≡ l
  unfolding answered
  whole_lengths w =
      let s = roomy_spaces j l w.roomy in
      ap lengths_of (whole_columns w)
      ∙ written_lengths (answered (reached j) (run_of j)) l w.run.fits
      (omega (arith, states_length, s.bar_rules)) (omega (arith, states_length, s.bar_ppms))

  zeros_lengths : lengths_of (zeros l) ≡ l
  unfolding zeros
  zeros_lengths = λ i.
      record {
        regions = length-replicate {A = ℕ} l.regions 0 i;
        rules = length-replicate {A = ℕ} l.rules 0 i;
        kinds = length-replicate {A = ℕ} l.kinds 0 i;
        colours = length-replicate {A = ℕ} l.colours 0 i;
        ppms = length-replicate {A = ℕ} l.ppms 0 i;
        shapes = length-replicate {A = ℕ} l.shapes 0 i;
        bar_rules = length-replicate {A = ℕ} l.bar_rules 0 i;
        bar_ppms = length-replicate {A = ℕ} l.bar_ppms 0 i;
        scratch = length-replicate l.scratch zero_f i;
      }

  pub demand_one : DemandOne j limit l
  demand_one =
      ⊎_elim
      (λ w. record { refused = λ no. absurd (no (whole_answered w)); complete = λ z. whole_columns w; lengths = whole_lengths w })
      (λ r. record {
        refused = λ no. refused_columns r;
        complete = λ z. absurd (refused_unanswered r z);
        lengths = ap lengths_of (refused_columns r) ∙ zeros_lengths;
      })
      (result_is j limit l)
