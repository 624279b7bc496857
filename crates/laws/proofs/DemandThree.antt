-- Demand 3 of the definition: when a well-formed job is answered, that all its answers are one, and how far its count can rise.
-- Assumes nothing.
use Rattle.std.specs.Prelude.{Ok}
use Prim.Native.Nat.{ℕ, ◌+◌, ◌*◌, ◌^◌, ◌≤◌, ◌<◌}
use native.Mathlib.Omega.{arith}
use native.Mathlib.Decide.{dec_le, ℕ_discrete}
use mathlib.Core.Path.{◌≡◌, subst₂}
use mathlib.Core.Logic.{◌⊎◌, inl, inr, ⊎_elim}
use mathlib.Core.Option.{none}
use lib.ListN.{length}
use borrow.Author.Tests.{le-leb}
use Rattle.charging.specs.Charge.{counter, spend}
use Rattle.model.specs.Answer.{answer, answered, settled, limited}
use Rattle.model.specs.Job.{Job, Lengths, rules_of, cell_count, region_count, sheet_of, run_of}
use Rattle.laws.specs.Demands.{WellFormed, Roomy, Answered, reached, Enough, duplicate_areas, DemandThreeHolds}
use Rattle.laws.proofs.Spending.{spend_over, spend_enough}
use Rattle.laws.proofs.Bound.{AtMost, run_bound_lem}
use Rattle.laws.proofs.Lengths.{cells_length, regions_length}
use Rattle.laws.proofs.Results.{WholeJob, result_is, result_checked}
use Rattle.laws.proofs.DemandOne.{refused_unanswered, whole_columns}

module _ (j : Job) where
  charges_bound : AtMost (length (rules_of j) * (region_count j + cell_count j) + duplicate_areas (rules_of j)) (run_of j).charges
  unfolding run_of sheet_of
  charges_bound =
      subst₂ (λ (regions cells : ℕ). AtMost (length (rules_of j) * (regions + cells) + duplicate_areas (rules_of j)) (run_of j).charges)
      (regions_length j.region_rows j.region_cols 0 (region_count j)) (cells_length j.cells 0 (cell_count j)) (run_bound_lem (sheet_of j) (rules_of j))

  module _ (limit : ℕ) (l : Lengths) where
    -- an answered job is the whole run
    answered_whole : Answered j limit l → WholeJob j limit l
    answered_whole z = ⊎_elim (λ w. w) (λ r. absurd (refused_unanswered j limit l r z)) (result_is j limit l)

    -- accepted charges are none or within the limit
    within_enough : reached j < 2 ^ 64 → spend limit j.start (run_of j).charges ≡ Ok (counter (reached j))
        → (reached j ≡ j.start) ⊎ (reached j ≤ limit)
    within_enough fits h =
        elim (dec_le (reached j) limit) [
          | yes low ↦ inr low
          | no high ↦
              elim (ℕ_discrete (reached j) j.start) [
                | yes same ↦ inl same
                | no more ↦
                    let over = spend_over limit j.start (run_of j).charges fits (omega arith) (omega arith) in
                    absurd (let no : ◌≡◌ {A = ℕ} 0 1 = cc over.is in omega arith)
              ]
        ]

    enough_answered : WellFormed j → Roomy j l → reached j < 2 ^ 64 → Enough j limit l → Answered j limit l
    unfolding limited settled answered answer
    enough_answered good roomy fits e =
        let within = spend_enough limit j.start (run_of j).charges charges_bound.charging fits e.1 in
        rw (result_checked j limit l none none good roomy, within, le-leb _ _ e.0)

-- demand 3 holds of the definition
pub demand_three : DemandThreeHolds
demand_three j good fits =
    record {
      when = λ limit l roomy. (
        λ z. let w = answered_whole j limit l z in (w.run.fits, within_enough j limit l fits w.run.spent),
        λ e. enough_answered j limit l good roomy fits e,
      );
      alike = λ limit l roomy z. (answered_whole j limit l z).run.is;
      columns = λ limit l roomy z. whole_columns j limit l (answered_whole j limit l z);
      bounded = omega (arith, (charges_bound j).most);
    }
