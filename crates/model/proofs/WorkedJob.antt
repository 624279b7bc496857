-- The worked job of document 01, computed on the definition: the whole result at limits 100, 11 and 10 and with space for 2 marks,
-- and the nine columns at the end. The answers are the paper's. Assumes nothing.
use Prim.Native.Nat.{ℕ}
use mathlib.Core.Path.{◌≡◌, refl}
use mathlib.Core.Bool.{Bool, true, false}
use mathlib.Core.List.{[], ◌∷◌}
use lib.ListN.{replicate}
use Rattle.model.specs.declared.CfRule.{CfRule}
use Rattle.model.specs.Ratio.{zero_f}
use Rattle.model.specs.Run.{Mark, RegionState}
use Rattle.model.specs.Answer.{Result, answer, refusal, refused}
use Rattle.model.specs.Job.{Job, Lengths, result, mark_space}
use Rattle.model.specs.Columns.{columns_of}
use Rattle.model.proofs.Computing.{jobs}
use Rattle.model.proofs.Samples.{samples, span, down, regions, rows, rule, prior, stopping, green, above, all_of, job_in, lengths}

abbrev pub job : Job
job =
    job_in (0x53 ∷ []) (span 0 1) (down (1 ∷ 2 ∷ 3 ∷ [])) (regions 3)
    (all_of (rule (rows 3) (CfRule.DataBar green) ∷ stopping (prior 0 (rule (rows 3) above)) ∷ [])) 0

abbrev mark : ℕ → ℕ → ℕ → ℕ → ℕ → ℕ → Mark
mark region rule kind colour ppm shape =
    record { region = region; rule = rule; paint = record { kind = kind; colour = colour; ppm = ppm; shape = shape } }

abbrev state : Bool → ℕ → ℕ → RegionState
state stopped bar_rule bar_ppm = record { stopped = stopped; bar_rule = bar_rule; bar_ppm = bar_ppm }

abbrev report : Result
report =
    record {
      summary = answer 11 3 0 1;
      marks = mark 2 1 1 0xff0000 0 0 ∷ mark 0 0 3 0x00ff00 0 0 ∷ mark 1 0 3 0x00ff00 500_000 0 ∷ [];
      states = state false 1 0 ∷ state false 1 500_000 ∷ state true 0 0 ∷ [];
    }

limit_100 : result job 100 (lengths 1024 3 3) ≡ report
unfolding jobs samples
limit_100 = refl

limit_11 : result job 11 (lengths 3 3 3) ≡ report
unfolding jobs samples
limit_11 = refl

limit_10 : result job 10 (lengths 1024 3 3) ≡ refused (refusal 7 0 11 11)
unfolding jobs samples
limit_10 = refl

-- ---- the columns, of nine lengths

abbrev uneven : Lengths
uneven =
    record { regions = 5; rules = 4; kinds = 3; colours = 7; ppms = 6; shapes = 8; bar_rules = 3; bar_ppms = 5; scratch = 4 }

columns_at_11 : columns_of job 11 uneven
    ≡ record {
      regions = 2 ∷ 0 ∷ 1 ∷ 0 ∷ 0 ∷ [];
      rules = 1 ∷ 0 ∷ 0 ∷ 0 ∷ [];
      kinds = 1 ∷ 3 ∷ 3 ∷ [];
      colours = 0xff0000 ∷ 0x00ff00 ∷ 0x00ff00 ∷ 0 ∷ 0 ∷ 0 ∷ 0 ∷ [];
      ppms = 0 ∷ 0 ∷ 500_000 ∷ 0 ∷ 0 ∷ 0 ∷ [];
      shapes = 0 ∷ 0 ∷ 0 ∷ 0 ∷ 0 ∷ 0 ∷ 0 ∷ 0 ∷ [];
      bar_rules = 1 ∷ 1 ∷ 0 ∷ [];
      bar_ppms = 0 ∷ 500_000 ∷ 0 ∷ 0 ∷ 0 ∷ [];
      scratch = zero_f ∷ zero_f ∷ zero_f ∷ zero_f ∷ [];
    }
unfolding jobs samples
columns_at_11 = refl

columns_at_10 : columns_of job 10 uneven
    ≡ record {
      regions = replicate 5 0;
      rules = replicate 4 0;
      kinds = replicate 3 0;
      colours = replicate 7 0;
      ppms = replicate 6 0;
      shapes = replicate 8 0;
      bar_rules = replicate 3 0;
      bar_ppms = replicate 5 0;
      scratch = replicate 4 zero_f;
    }
unfolding jobs samples
columns_at_10 = refl

-- one mark column of 2 makes the space 2, and three marks exceed it
abbrev narrow : Lengths
narrow = record { regions = 5; rules = 4; kinds = 3; colours = 2; ppms = 6; shapes = 6; bar_rules = 3; bar_ppms = 3; scratch = 3 }

narrow_space : mark_space narrow ≡ 2
unfolding jobs
narrow_space = refl

space_2 : result job 11 narrow ≡ refused (refusal 9 0 11 3)
unfolding jobs samples
space_2 = refl
