-- The columns that are lent for writing as one record, the space of those for marks, and a column that is kept or cleared. Assumes
-- nothing.
use Rattle.std.specs.Prelude.{ℕ, min, Bool, cond, List, length, replicate, Float}
use Rattle.model.specs.Answer.{Summary}
use Rattle.model.specs.Columns.{Columns}
use Rattle.settling.specs.declared.Ran.{Ran}
use Rattle.settling.specs.Settling.{settled_as}

-- the shortest of the mark columns
abbrev pub shortest_of : ℕ → ℕ → ℕ → ℕ → ℕ → ℕ → ℕ
shortest_of a b c d e f = min a (min b (min c (min d (min e f))))

-- the answer with the space of these mark columns
abbrev pub settled_on : List ℕ → List ℕ → List ℕ → List ℕ → List ℕ → List ℕ → Ran → Summary
settled_on a b c d e f ran = settled_as (shortest_of (length a) (length b) (length c) (length d) (length e) (length f)) ran

-- a column as it is, or zeros
abbrev pub kept_if : Bool → List ℕ → List ℕ
kept_if keep l = cond keep l (replicate (length l) 0)

abbrev pub lent : List ℕ → List ℕ → List ℕ → List ℕ → List ℕ → List ℕ → List ℕ → List ℕ → List Float → Columns
lent regions rules kinds colours ppms shapes bar_rules bar_ppms scratch =
    record {
      regions = regions;
      rules = rules;
      kinds = kinds;
      colours = colours;
      ppms = ppms;
      shapes = shapes;
      bar_rules = bar_rules;
      bar_ppms = bar_ppms;
      scratch = scratch;
    }
