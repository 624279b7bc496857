-- Demands 1 and 3 over the definition of the rules, as statements only; proofs/DemandOne.antt and DemandThree.antt prove them.
-- Assumes nothing.
use Rattle.std.specs.Prelude.{ℕ, ◌+◌, ◌-◌, ◌*◌, ◌^◌, ◌≤◌, ◌<◌, ◌≡◌, cond, ◌&&◌, ◌⊎◌, ◌↔◌, List, [], ◌∷◌, length, replicate}
use Rattle.std.proofs.Math.Option.{none}
use Rattle.charging.specs.Charge.{total}
use Rattle.model.specs.declared.CfRule.{CfRule}
use Rattle.model.specs.declared.Rule.{Rule}
use Rattle.model.specs.Sheet.{upright, within_grid, area}
use Rattle.model.specs.Ratio.{zero_f}
use Rattle.model.specs.Answer.{answered}
use Rattle.model.specs.Job.{Job, Lengths, mark_space, rules_of, cell_count, region_count, malformed, space_short, run_of, result}
use Rattle.model.specs.Columns.{Columns, written, columns_of}

-- ---- the words of the demands

-- none of the checks 1 to 5 is met
abbrev pub WellFormed : Job → Type 0
WellFormed j = malformed j ≡ none

-- enough scratch and bar space: the check 6 is not met
abbrev pub Roomy : Job → Lengths → Type 0
Roomy j l = space_short j l ≡ none

abbrev pub Answered : Job → ℕ → Lengths → Type 0
Answered j limit l = (result j limit l).summary.number ≡ 0

-- E: the count that the definition reaches from S without a limit
abbrev pub reached : Job → ℕ
reached j = j.start + total (run_of j).charges

-- M: how many marks it has without an end to the mark space
abbrev pub mark_count : Job → ℕ
mark_count j = length (run_of j).marks

-- space for M marks, and either E = S or the limit is at least E
abbrev pub Enough : Job → ℕ → Lengths → Type 0
Enough j limit l = (mark_count j ≤ mark_space l) × ((reached j ≡ j.start) ⊎ (reached j ≤ limit))

-- the area of a duplicate rule's range, if that is upright and within the grid
abbrev pub area_of_kind : Rule → CfRule → ℕ
area_of_kind r (CfRule.DuplicateValues unique fill) = cond (upright r.range && within_grid r.range) (area r.range) 0
area_of_kind r (CfRule.CellIs op first second fill) = 0
area_of_kind r (CfRule.ColorScale2 min max) = 0
area_of_kind r (CfRule.ColorScale3 min mid max) = 0
area_of_kind r (CfRule.DataBar color) = 0
area_of_kind r (CfRule.TopBottom rank bottom percent fill) = 0
area_of_kind r (CfRule.AboveAverage below fill) = 0
area_of_kind r (CfRule.Expression op left right fill) = 0

unfoldable pub duplicate_areas : List Rule → ℕ
duplicate_areas [] = 0
duplicate_areas (r ∷ rs) = area_of_kind r r.kind + duplicate_areas rs

-- every column 0 from end to end
unfoldable pub zeros : Lengths → Columns
zeros l =
    record {
      regions = replicate l.regions 0;
      rules = replicate l.rules 0;
      kinds = replicate l.kinds 0;
      colours = replicate l.colours 0;
      ppms = replicate l.ppms 0;
      shapes = replicate l.shapes 0;
      bar_rules = replicate l.bar_rules 0;
      bar_ppms = replicate l.bar_ppms 0;
      scratch = replicate l.scratch zero_f;
    }

abbrev pub lengths_of : Columns → Lengths
lengths_of c =
    record {
      regions = length c.regions;
      rules = length c.rules;
      kinds = length c.kinds;
      colours = length c.colours;
      ppms = length c.ppms;
      shapes = length c.shapes;
      bar_rules = length c.bar_rules;
      bar_ppms = length c.bar_ppms;
      scratch = length c.scratch;
    }

-- ---- the demands

-- Demand 1 of the definition, for every job, limit and space: zeros from end to end after a refusal, a complete result else,
-- and every column keeps its length
pub record DemandOne (j : Job) (limit : ℕ) (l : Lengths) : Type 0 where
  pub refused : (Answered j limit l → ⊥) → columns_of j limit l ≡ zeros l
  pub complete : Answered j limit l → columns_of j limit l ≡ written (answered (reached j) (run_of j)) l
  pub lengths : lengths_of (columns_of j limit l) ≡ l

-- Demand 3 of the definition, for a job whose checks pass and whose E is at most 2^64 - 1
pub record DemandThree (j : Job) : Type 0 where
  -- answered exactly when there is space for M marks and either E = S or the limit is at least E
  pub when : (limit : ℕ) (l : Lengths) → Roomy j l → Answered j limit l ↔ Enough j limit l
  -- all these answers have the M marks, the bars, deferred and simplified of the run without a limit, and count E
  pub alike : (limit : ℕ) (l : Lengths) → Roomy j l → Answered j limit l → result j limit l ≡ answered (reached j) (run_of j)
  -- these are in what was lent for writing, with zeros in the rest
  pub columns : (limit : ℕ) (l : Lengths) → Roomy j l → Answered j limit l
      → columns_of j limit l ≡ written (answered (reached j) (run_of j)) l
  -- E - S is at most rules × (regions + cells) and the areas of the duplicate rules
  pub bounded : reached j - j.start ≤ length (rules_of j) * (region_count j + cell_count j) + duplicate_areas (rules_of j)

abbrev pub DemandThreeHolds : Type 0
DemandThreeHolds = (j : Job) → WellFormed j → reached j < 2 ^ 64 → DemandThree j
