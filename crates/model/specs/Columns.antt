-- What every column that is lent for writing holds at the end: the result, and 0 past it (document 01, 'The lent sheet').
-- A refusal has no marks and no bars, so that all of it is 0. Assumes nothing.
use Rattle.std.specs.Prelude.{ℕ, ◌-◌, List, ◌++◌, map, length, replicate, Float}
use Rattle.model.specs.Ratio.{zero_f}
use Rattle.model.specs.Run.{Mark, RegionState}
use Rattle.model.specs.Answer.{Result}
use Rattle.model.specs.Job.{Job, Lengths, result}

-- the nine columns that are lent for writing
pub record Columns : Type 0 where
  pub regions : List ℕ
  pub rules : List ℕ
  pub kinds : List ℕ
  pub colours : List ℕ
  pub ppms : List ℕ
  pub shapes : List ℕ
  pub bar_rules : List ℕ
  pub bar_ppms : List ℕ
  pub scratch : List Float

-- a column of n elements: a field of each entry, then zeros
unfoldable pub column : {A : Type 0} → ℕ → (A → ℕ) → List A → List ℕ
column n field entries = map field entries ++ replicate (n - length entries) 0

unfoldable pub written : Result → Lengths → Columns
written r l =
    record {
      regions = column l.regions (λ (m : Mark). m.region) r.marks;
      rules = column l.rules (λ (m : Mark). m.rule) r.marks;
      kinds = column l.kinds (λ (m : Mark). m.paint.kind) r.marks;
      colours = column l.colours (λ (m : Mark). m.paint.colour) r.marks;
      ppms = column l.ppms (λ (m : Mark). m.paint.ppm) r.marks;
      shapes = column l.shapes (λ (m : Mark). m.paint.shape) r.marks;
      bar_rules = column l.bar_rules (λ (s : RegionState). s.bar_rule) r.states;
      bar_ppms = column l.bar_ppms (λ (s : RegionState). s.bar_ppm) r.states;
      scratch = replicate l.scratch zero_f;
    }

-- the columns at the end of a job
unfoldable pub columns_of : Job → ℕ → Lengths → Columns
columns_of j limit l = written (result j limit l) l
