-- The worked job of document 01 under limit 11 by the space that is lent, computed: mark columns, bar columns and scratch one element
-- short, exact and longer. Too little space is told, 9 for marks and 6 for the others, and leaves zeros from end to end. Assumes nothing.
use Prim.Native.Nat.{ℕ}
use mathlib.Core.Path.{◌≡◌, refl}
use mathlib.Core.List.{List, [], ◌∷◌}
use lib.ListN.{replicate}
use lib.Ieee.{Float}
use Rattle.model.specs.Ratio.{zero_f}
use Rattle.model.specs.Answer.{Summary, answer, refusal}
use Rattle.model.specs.Job.{Lengths, result}
use Rattle.model.specs.Columns.{Columns, columns_of}
use Rattle.model.proofs.Computing.{jobs}
use Rattle.model.proofs.Samples.{samples, lengths}
use Rattle.model.proofs.WorkedJob.{job}

-- what the answer says, and what the nine columns hold
pub record Ended : Type 0 where
  pub summary : Summary
  pub columns : Columns

abbrev ended : Lengths → Ended
ended l = record { summary = (result job 11 l).summary; columns = columns_of job 11 l }

-- region, rule, kind, colour, ppm and shape of the marks, the two bar columns, and scratch
abbrev holding : List ℕ → List ℕ → List ℕ → List ℕ → List ℕ → List ℕ → List ℕ → List ℕ → List Float → Columns
holding regions rules kinds colours ppms shapes bar_rules bar_ppms scratch =
    record {
      regions = regions;
      rules = rules;
      kinds = kinds;
      colours = colours;
      ppms = ppms;
      shapes = shapes;
      bar_rules = bar_rules;
      bar_ppms = bar_ppms;
      scratch = scratch;
    }

-- the answer, and a refusal after which the columns of these lengths are zeros
abbrev worked : Columns → Ended
worked columns = record { summary = answer 11 3 0 1; columns = columns }

abbrev turned_back : Summary → ℕ → ℕ → ℕ → ℕ → ℕ → ℕ → ℕ → ℕ → ℕ → Ended
turned_back s regions rules kinds colours ppms shapes bar_rules bar_ppms scratch =
    record {
      summary = s;
      columns = holding (replicate regions 0) (replicate rules 0) (replicate kinds 0) (replicate colours 0) (replicate ppms 0)
          (replicate shapes 0) (replicate bar_rules 0) (replicate bar_ppms 0) (replicate scratch zero_f);
    }

abbrev marks_exceed : Summary
marks_exceed = refusal 9 0 11 3

abbrev space_short : Summary
space_short = refusal 6 0 0 0

-- ---- three marks

-- in columns of two: no mark and no bar is left
marks_short : ended (lengths 2 3 3)
    ≡ record {
      summary = marks_exceed;
      columns = holding (0 ∷ 0 ∷ []) (0 ∷ 0 ∷ []) (0 ∷ 0 ∷ []) (0 ∷ 0 ∷ []) (0 ∷ 0 ∷ []) (0 ∷ 0 ∷ []) (0 ∷ 0 ∷ 0 ∷ [])
          (0 ∷ 0 ∷ 0 ∷ []) (zero_f ∷ zero_f ∷ zero_f ∷ []);
    }
unfolding jobs samples
marks_short = refl

-- any of the six by itself
abbrev marks_in : ℕ → ℕ → ℕ → ℕ → ℕ → ℕ → Ended
marks_in regions rules kinds colours ppms shapes =
    ended (record {
      regions = regions;
      rules = rules;
      kinds = kinds;
      colours = colours;
      ppms = ppms;
      shapes = shapes;
      bar_rules = 3;
      bar_ppms = 3;
      scratch = 3;
    })

one_column_short :
    marks_in 2 3 3 3 3 3 ∷ marks_in 3 2 3 3 3 3 ∷ marks_in 3 3 2 3 3 3 ∷ marks_in 3 3 3 2 3 3 ∷ marks_in 3 3 3 3 2 3 ∷ marks_in 3 3 3 3 3 2 ∷ []
    ≡ turned_back marks_exceed 2 3 3 3 3 3 3 3 3 ∷ turned_back marks_exceed 3 2 3 3 3 3 3 3 3 ∷ turned_back marks_exceed 3 3 2 3 3 3 3 3 3
    ∷ turned_back marks_exceed 3 3 3 2 3 3 3 3 3 ∷ turned_back marks_exceed 3 3 3 3 2 3 3 3 3 ∷ turned_back marks_exceed 3 3 3 3 3 2 3 3 3 ∷ []
unfolding jobs samples
one_column_short = refl

-- in columns of three
marks_exact : ended (lengths 3 3 3)
    ≡ worked (holding (2 ∷ 0 ∷ 1 ∷ []) (1 ∷ 0 ∷ 0 ∷ []) (1 ∷ 3 ∷ 3 ∷ []) (0xff0000 ∷ 0x00ff00 ∷ 0x00ff00 ∷ []) (0 ∷ 0 ∷ 500_000 ∷ [])
    (0 ∷ 0 ∷ 0 ∷ []) (1 ∷ 1 ∷ 0 ∷ []) (0 ∷ 500_000 ∷ 0 ∷ []) (zero_f ∷ zero_f ∷ zero_f ∷ []))
unfolding jobs samples
marks_exact = refl

-- in columns of four
marks_longer : ended (lengths 4 3 3)
    ≡ worked (holding (2 ∷ 0 ∷ 1 ∷ 0 ∷ []) (1 ∷ 0 ∷ 0 ∷ 0 ∷ []) (1 ∷ 3 ∷ 3 ∷ 0 ∷ []) (0xff0000 ∷ 0x00ff00 ∷ 0x00ff00 ∷ 0 ∷ [])
    (0 ∷ 0 ∷ 500_000 ∷ 0 ∷ []) (0 ∷ 0 ∷ 0 ∷ 0 ∷ []) (1 ∷ 1 ∷ 0 ∷ []) (0 ∷ 500_000 ∷ 0 ∷ []) (zero_f ∷ zero_f ∷ zero_f ∷ []))
unfolding jobs samples
marks_longer = refl

-- ---- three regions and three cells

-- bar columns, or scratch, of two; each column by itself; and with the mark columns short as well
abbrev besides : ℕ → ℕ → ℕ → ℕ → Ended
besides marks bar_rules bar_ppms scratch =
    ended (record {
      regions = marks;
      rules = marks;
      kinds = marks;
      colours = marks;
      ppms = marks;
      shapes = marks;
      bar_rules = bar_rules;
      bar_ppms = bar_ppms;
      scratch = scratch;
    })

bars_or_scratch_short : besides 3 2 2 3 ∷ besides 3 2 3 3 ∷ besides 3 3 2 3 ∷ besides 3 3 3 2 ∷ besides 2 3 3 2 ∷ []
    ≡ turned_back space_short 3 3 3 3 3 3 2 2 3 ∷ turned_back space_short 3 3 3 3 3 3 2 3 3 ∷ turned_back space_short 3 3 3 3 3 3 3 2 3
    ∷ turned_back space_short 3 3 3 3 3 3 3 3 2 ∷ turned_back space_short 2 2 2 2 2 2 3 3 2 ∷ []
unfolding jobs samples
bars_or_scratch_short = refl

-- bar columns of four and five, and scratch of four
bars_and_scratch_longer : besides 3 4 5 4
    ≡ worked (holding (2 ∷ 0 ∷ 1 ∷ []) (1 ∷ 0 ∷ 0 ∷ []) (1 ∷ 3 ∷ 3 ∷ []) (0xff0000 ∷ 0x00ff00 ∷ 0x00ff00 ∷ []) (0 ∷ 0 ∷ 500_000 ∷ [])
    (0 ∷ 0 ∷ 0 ∷ []) (1 ∷ 1 ∷ 0 ∷ 0 ∷ []) (0 ∷ 500_000 ∷ 0 ∷ 0 ∷ 0 ∷ []) (zero_f ∷ zero_f ∷ zero_f ∷ zero_f ∷ []))
unfolding jobs samples
bars_and_scratch_longer = refl
