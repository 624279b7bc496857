-- What the checks find and answer, said of the definition's values. Assumes nothing.
use Rattle.std.specs.Prelude.{ℕ, List, [], ◌∷◌, Result, Ok, Err, Option as Optional, Some, None, ⊤}
use Rattle.std.proofs.Math.Option.{Option, none, some}
use Rattle.model.specs.declared.Span.{Span}
use Rattle.model.specs.declared.Rules.{Rules}
use Rattle.model.specs.Sheet.{CellColumns}
use Rattle.model.specs.Answer.{Summary, refused_by}
use Rattle.model.specs.Job.{Job, Lengths, first_of, malformed, space_short}
use Rattle.model.specs.declared.Refusal.{Refusal}

-- the index at which a search stops, if it does
abbrev pub Found : Type 0
Found = Optional ℕ

-- nothing to refuse, or the refusal
abbrev pub Checked : Type 0
Checked = Result ⊤ Refusal

-- the index that a search of the definition gives
abbrev pub found : Option ℕ → Found
found none = None
found (some i) = Some i

-- the refusal that an answer of the checks stands for
abbrev pub turned_back : Checked → Option Summary
turned_back (Ok done) = none
turned_back (Err r) = some (refused_by r)

-- ---- the job of lent columns

abbrev pub cell_columns : List ℕ → List ℕ → List ℕ → List ℕ → List ℕ → List ℕ → List ℕ → CellColumns
cell_columns rows cols kinds wraps nums ats lens =
    record { rows = rows; cols = cols; kinds = kinds; wraps = wraps; nums = nums; ats = ats; lens = lens }

abbrev pub job_of : CellColumns → List ℕ → List ℕ → List ℕ → Span → Rules → ℕ → Job
job_of cells region_rows region_cols pool name rules start =
    record {
      cells = cells;
      region_rows = region_rows;
      region_cols = region_cols;
      pool = pool;
      name = name;
      rules = rules;
      start = start;
    }

-- the lengths that check 6 looks at; those of the mark columns have no part in it
abbrev pub space_of : ℕ → ℕ → ℕ → Lengths
space_of bar_rules bar_ppms scratch =
    record { regions = 0; rules = 0; kinds = 0; colours = 0; ppms = 0; shapes = 0; bar_rules = bar_rules; bar_ppms = bar_ppms; scratch = scratch }

-- ---- the checks together

-- the first of the checks 1 to 6 that is met
unfoldable pub refusal_of : Job → Lengths → Option Summary
refusal_of j l = first_of (malformed j ∷ space_short j l ∷ [])
