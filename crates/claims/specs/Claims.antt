-- Demands 1 and 3 of the call over lent columns itself, as statements only: each is said of what the contract of
-- `call::resolve_conditional_paints` asks (`Pre`) and promises (`Post`). proofs/Held.antt proves them.
-- `Pre` and `Post` of a function F of a crate C are made from its `requires` and `ensures`, in the module `Rattle.C.proofs.F.Reads`;
-- `rt check --generated DIR` in crates/C writes it to DIR/Rattle-C-proofs/F/Reads.antt. That F, called where `Pre` holds, ends where `Post`
-- holds is the verdict of `rt check` there; here stands what follows from `Post` for every caller. Assumes nothing.
use Rattle.std.specs.Prelude.{ℕ, ◌+◌, ◌-◌, ◌*◌, ◌^◌, ◌≤◌, ◌<◌, ◌≡◌, ◌↔◌, List, [], ◌∷◌, length, Float, Ok}
use contract.Lifetimes.{Lfts}
use Rattle.std.specs.Borrow.{MutBor}
use Rattle.model.specs.Options.{Answer}
use Rattle.model.specs.declared.LentJob.{LentJob}
use Rattle.model.specs.Answer.{totals, summary, answered}
use Rattle.model.specs.Job.{Job, rules_of, cell_count, region_count, run_of, result}
use Rattle.model.specs.Columns.{Columns, written, columns_of}
use Rattle.laws.specs.Demands.{WellFormed, Roomy, reached, mark_count, Enough, duplicate_areas, zeros, lengths_of}
use Rattle.call.proofs.resolve_conditional_paints.Reads as call
use Rattle.claims.specs.Arguments.{Places, slice_mut, NumbersMut, job_at, ◌⊗◌, ◌&◌}

-- ---- the arguments of the call, by their names

abbrev pub Where : Type 0
Where = Places 10

abbrev pub Args : Type 0
Args =
    LentJob ⊗ ℕ
    ⊗ NumbersMut ⊗ NumbersMut ⊗ NumbersMut ⊗ NumbersMut ⊗ NumbersMut ⊗ NumbersMut ⊗ NumbersMut ⊗ NumbersMut ⊗ MutBor (List Float)
    ⊗ Unit {0}

-- a job, a limit, and the nine columns that are lent for writing
abbrev args : Where → Job → ℕ → Columns → Args
args w j limit c =
    job_at w j & limit
    & slice_mut w 14 c.regions & slice_mut w 15 c.rules & slice_mut w 16 c.kinds & slice_mut w 17 c.colours & slice_mut w 18 c.ppms
    & slice_mut w 19 c.shapes & slice_mut w 20 c.bar_rules & slice_mut w 21 c.bar_ppms & slice_mut w 22 c.scratch & tt

-- the call on a job ends with this answer, and leaves this in the columns that held `before`
abbrev pub Ends : Where → Job → ℕ → Columns → Answer → Columns → Type 0
Ends w j limit before a after = call.Post w.lifetimes (args w j limit before) a (args w j limit after)

-- the call answers the job, and does not refuse it
abbrev pub IsAnswered : Answer → Type 0
IsAnswered a = (summary a).number ≡ 0

-- ---- the claims

-- nothing is asked of the caller
abbrev pub NothingAsked : Type 0
NothingAsked = (κs : Lfts 10) (a : Args) → call.Pre κs a

-- the answer and every element of the nine columns are the definition's, whatever the columns held
abbrev pub Determined : Type 0
Determined = (w : Where) (j : Job) (limit : ℕ) (before after : Columns) (a : Answer) → Ends w j limit before a after
    → (summary a ≡ (result j limit (lengths_of before)).summary) × (after ≡ columns_of j limit (lengths_of before))

-- an answer and columns that the contract allows, on every input
pub record Ending (w : Where) (j : Job) (limit : ℕ) (before : Columns) : Type 0 where
  pub answer : Answer
  pub after : Columns
  pub ends : Ends w j limit before answer after

abbrev pub Possible : Type 0
Possible = (w : Where) (j : Job) (limit : ℕ) (before : Columns) → Ending w j limit before

-- Demand 1: zeros from end to end after a refusal, else a complete result, and every column as long as it was
pub record One (j : Job) (before after : Columns) (a : Answer) : Type 0 where
  pub refused : (IsAnswered a → ⊥) → after ≡ zeros (lengths_of before)
  pub complete : IsAnswered a → after ≡ written (answered (reached j) (run_of j)) (lengths_of before)
  pub lengths : lengths_of after ≡ lengths_of before

abbrev pub DemandOne : Type 0
DemandOne = (w : Where) (j : Job) (limit : ℕ) (before after : Columns) (a : Answer) → Ends w j limit before a after → One j before after a

-- Demand 3, of a job J that is well-formed and whose E is at most 2^64 - 1. S is `start`, E is `reached`, M is `mark_count`.
pub record Three (j : Job) : Type 0 where
  -- with enough scratch and bar space, whatever the limit, the mark space and the former contents, J is answered exactly when there is
  -- space for M marks and either E = S or the limit is at least E
  pub when : (w : Where) (limit : ℕ) (before after : Columns) (a : Answer) → Roomy j (lengths_of before) → Ends w j limit before a after
      → IsAnswered a ↔ Enough j limit (lengths_of before)
  -- all these answers have count E, M marks, and the same deferred and simplified
  pub alike : (w : Where) (limit : ℕ) (before after : Columns) (a : Answer) → Roomy j (lengths_of before) → Ends w j limit before a after
      → IsAnswered a → a ≡ Ok (totals (reached j) (mark_count j) (run_of j).deferred (run_of j).simplified)
  -- the nine columns hold the M marks in their order and the bars of the run without a limit, and zeros in the rest
  pub columns : (w : Where) (limit : ℕ) (before after : Columns) (a : Answer) → Roomy j (lengths_of before) → Ends w j limit before a after
      → IsAnswered a → after ≡ written (answered (reached j) (run_of j)) (lengths_of before)
  -- E - S is at most rules × (regions + cells) and the areas of the duplicate rules whose range is upright and within the grid
  pub bounded : reached j - j.start ≤ length (rules_of j) * (region_count j + cell_count j) + duplicate_areas (rules_of j)

abbrev pub DemandThree : Type 0
DemandThree = (j : Job) → WellFormed j → reached j < 2 ^ 64 → Three j

-- ---- the demands are not empty

-- the report of document 01 on its worked job, in mark columns of four
pub record WorkedReport (a : Answer) (after : Columns) : Type 0 where
  pub is_answered : IsAnswered a
  pub count : (summary a).count ≡ 11
  pub marks : (summary a).marks ≡ 3
  pub regions : after.regions ≡ 2 ∷ 0 ∷ 1 ∷ 0 ∷ []
  pub rules : after.rules ≡ 1 ∷ 0 ∷ 0 ∷ 0 ∷ []
  pub kinds : after.kinds ≡ 1 ∷ 3 ∷ 3 ∷ 0 ∷ []
  pub colours : after.colours ≡ 0xff0000 ∷ 0x00ff00 ∷ 0x00ff00 ∷ 0 ∷ []
  pub ppms : after.ppms ≡ 0 ∷ 0 ∷ 500_000 ∷ 0 ∷ []
  pub shapes : after.shapes ≡ 0 ∷ 0 ∷ 0 ∷ 0 ∷ []

-- a job of three cells, three regions and two rules, a limit and lent columns that meet every hypothesis of demand 3; slices can lie
-- somewhere, there is an ending that the contract of the call allows, and each that it allows is that report
pub record Met : Type 0 where
  pub somewhere : Where
  pub job : Job
  pub limit : ℕ
  pub before : Columns
  pub cells : cell_count job ≡ 3
  pub regions : region_count job ≡ 3
  pub rules : length (rules_of job) ≡ 2
  pub well_formed : WellFormed job
  pub reachable : reached job < 2 ^ 64
  pub roomy : Roomy job (lengths_of before)
  pub ending : (w : Where) → Ending w job limit before
  pub reports : (w : Where) (after : Columns) (a : Answer) → Ends w job limit before a after → WorkedReport a after
