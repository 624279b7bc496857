-- Reports computed on the definition: the worked job of document 01 at limits 100, 11 and 10 as the paper prints it, marks without a
-- colour and without a bar, short bars, flat and too wide ones, shapes of imported styles, no marks at all, and the refusals of a text.
-- Assumes nothing.
use Prim.Native.Nat.{ℕ}
use mathlib.Core.Path.{◌≡◌, refl}
use mathlib.Core.List.{List, [], ◌∷◌, ◌++◌}
use Rattle.model.specs.declared.CfRule.{CfRule}
use Rattle.model.specs.Answer.{refusal, refused}
use Rattle.model.specs.Job.{Job, rules_of}
use Rattle.model.proofs.Computing.{jobs}
use Rattle.model.proofs.Samples.{samples, largest, lowest, lengths, decided, job_of, down, down_from, regions, rows, rule, imported}
use Rattle.model.proofs.Samples.{literal, equal_to, above, red, green, blue}
use Rattle.model.proofs.WorkedJob.{job}
use Rattle.grammar.specs.Parts.{bytes}
use Rattle.reporttext.specs.Report.{report_of}
use Rattle.reporttext.specs.Reports.{job_report}
use Rattle.reporttext.proofs.Computing.{lines}

abbrev names : List ℕ
names = bytes "number place count actual marks deferred simplified\n"

-- ---- the worked job

abbrev worked : List ℕ
worked =
    names
    ++ bytes "0 0 11 0 3 0 1\n"
    ++ bytes "region rule kind colour ppm cells shape\n2 1 1 ff0000 - - -\n0 0 3 00ff00 0 0 0\n1 0 3 00ff00 500000 20 0\n"
    ++ bytes "region barrule ppm\n0 0 0\n1 0 500000\n"

limit_100 : job_report job 100 (lengths 1024 3 3) ≡ worked
unfolding jobs samples lines
limit_100 = refl

limit_11 : job_report job 11 (lengths 1024 3 3) ≡ worked
unfolding jobs samples lines
limit_11 = refl

limit_10 : job_report job 10 (lengths 1024 3 3) ≡ names ++ bytes "7 0 11 11 0 0 0\n"
unfolding jobs samples lines
limit_10 = refl

-- ---- other jobs

-- with the highest limit and room for everything
abbrev reported : Job → List ℕ
reported j = report_of (rules_of j) (decided j)

abbrev marks : List ℕ
marks = bytes "region rule kind colour ppm cells shape\n"

-- an imported style has no colour; a bar with one keeps its own
abbrev styled : Job
styled =
    job_of (down (1 ∷ 2 ∷ [])) (regions 3) (imported (rule (rows 2) above) ∷ imported (rule (rows 2) (CfRule.DataBar green)) ∷ []) 0

no_colour : reported styled
    ≡ names
    ++ bytes "0 0 10 0 3 0 1\n"
    ++ marks
    ++ bytes "1 0 2 - - - -\n0 1 4 00ff00 0 0 0\n1 1 4 00ff00 1000000 40 0\n"
    ++ bytes "region barrule ppm\n0 1 0\n1 1 1000000\n"
unfolding jobs samples lines
no_colour = refl

-- a bar of 24,999 ppm has a cell, one of 0 ppm has none
short_bars : reported (job_of (down (0 ∷ 24_999 ∷ 50_000 ∷ 1_000_000 ∷ [])) (regions 4) (rule (rows 4) (CfRule.DataBar green) ∷ []) 0)
    ≡ names
    ++ bytes "0 0 8 0 4 0 1\n"
    ++ marks
    ++ bytes "0 0 3 00ff00 0 0 0\n1 0 3 00ff00 24999 1 0\n2 0 3 00ff00 50000 2 0\n3 0 3 00ff00 1000000 40 0\n"
    ++ bytes "region barrule ppm\n0 0 0\n1 0 24999\n2 0 50000\n3 0 1000000\n"
unfolding jobs samples lines
short_bars = refl

-- ---- shapes

-- the full bars of equal values are flat
flat_bars : reported (job_of (down (5 ∷ 5 ∷ [])) (regions 2) (rule (rows 2) (CfRule.DataBar green) ∷ []) 0)
    ≡ names
    ++ bytes "0 0 4 0 2 0 1\n"
    ++ marks
    ++ bytes "0 0 3 00ff00 1000000 40 1\n1 0 3 00ff00 1000000 40 1\n"
    ++ bytes "region barrule ppm\n0 0 1000000\n1 0 1000000\n"
unfolding jobs samples lines
flat_bars = refl

-- the empty bars of a span that overflows are too wide
wide_bars : reported (job_of (down_from 0 (lowest ∷ largest ∷ [])) (regions 2) (rule (rows 2) (CfRule.DataBar green) ∷ []) 0)
    ≡ names
    ++ bytes "0 0 4 0 2 0 1\n"
    ++ marks
    ++ bytes "0 0 3 00ff00 0 0 2\n1 0 3 00ff00 0 0 2\n"
    ++ bytes "region barrule ppm\n0 0 0\n1 0 0\n"
unfolding jobs samples lines
wide_bars = refl

-- an imported scale has neither colour nor bar, but its shape
imported_scale : reported (job_of (down (1 ∷ 1 ∷ 2 ∷ [])) (regions 3) (imported (rule (rows 3) (CfRule.ColorScale3 red green blue)) ∷ []) 0)
    ≡ names
    ++ bytes "0 0 6 0 3 0 0\n"
    ++ marks
    ++ bytes "0 0 2 - - - 1\n1 0 2 - - - 1\n2 0 2 - - - 3\n"
    ++ bytes "region barrule ppm\n"
unfolding jobs samples lines
imported_scale = refl

-- an imported style of another rule has none
imported_cell_is : reported (job_of (down (5 ∷ [])) (regions 1) (imported (rule (rows 1) (equal_to (literal 5))) ∷ []) 0)
    ≡ names ++ bytes "0 0 1 0 1 0 0\n" ++ marks ++ bytes "0 0 2 - - - -\n" ++ bytes "region barrule ppm\n"
unfolding jobs samples lines
imported_cell_is = refl

-- ---- no marks

-- a line of names, even above none
no_marks : reported (job_of [] (regions 2) [] 7) ≡ names ++ bytes "0 0 7 0 0 0 0\n" ++ marks ++ bytes "region barrule ppm\n"
unfolding jobs samples lines
no_marks = refl

-- ---- refusals of a text

too_long : report_of [] (refused (refusal 10 0 0 0)) ≡ names ++ bytes "10 0 0 0 0 0 0\n"
unfolding lines
too_long = refl

bad_line : report_of [] (refused (refusal 11 12 0 0)) ≡ names ++ bytes "11 12 0 0 0 0 0\n"
unfolding lines
bad_line = refl

-- the early 2, with the starting count
too_many_lem : report_of [] (refused (refusal 2 0 18_446_744_073_709_551_615 0))
    ≡ names ++ bytes "2 0 18446744073709551615 0 0 0 0\n"
unfolding lines
too_many_lem = refl
