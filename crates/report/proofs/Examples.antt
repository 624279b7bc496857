-- The definitions computed, on bytes one short, exact and longer: the report of an answer with one mark and one bar, with columns that hold
-- the mark and with one that does not; the report of a refusal, and of the number 0. The mark's rule is a scale, or none. Assumes nothing.
use Rattle.std.specs.Prelude.{Ok}
use Prim.Native.Nat.{ℕ}
use mathlib.Core.Path.{◌≡◌, refl}
use mathlib.Core.Bool.{true, false}
use mathlib.Core.List.{List, [], ◌∷◌, ◌++◌}
use lib.ListN.{replicate}
use Rattle.memory.specs.Memory.{all_or, page_of, page_length}
use Rattle.grammar.specs.Parts.{bytes}
use Rattle.model.specs.Options.{Answer}
use Rattle.model.specs.declared.CfRule.{CfRule}
use Rattle.model.specs.declared.Rule.{Rule}
use Rattle.model.specs.Answer.{summary, refusal, totals}
use Rattle.model.specs.Job.{mark_space}
use Rattle.model.specs.Columns.{Columns}
use Rattle.model.proofs.Computing.{jobs}
use Rattle.model.proofs.Samples.{samples, rows, rule, above, red, green, blue}
use Rattle.reporttext.specs.Report.{summary_text, report_of}
use Rattle.reporttext.specs.Shown.{printed, result_in, holds_marks}
use Rattle.reporttext.proofs.Computing.{lines}
use Rattle.report.specs.Printed.{printed_length, is_refusal}

-- ---- an answer

abbrev one : Answer
one = Ok (totals 5 1 0 0)

-- the columns of the colours and the shapes as given
abbrev columns : List ℕ → List ℕ → Columns
columns colours shapes =
    printed (4 ∷ 0 ∷ []) (2 ∷ 0 ∷ []) (1 ∷ 0 ∷ []) colours (0 ∷ []) shapes (0 ∷ 3 ∷ []) (0 ∷ 500_000 ∷ [])

abbrev all : Columns
all = columns (1_122_867 ∷ []) (3 ∷ 0 ∷ [])

-- two rules of other kinds, and a scale
abbrev others : List Rule
others = rule (rows 1) above ∷ rule (rows 1) above ∷ []

abbrev rules : List Rule
rules = others ++ (rule (rows 1) (CfRule.ColorScale3 red green blue) ∷ [])

abbrev text : List ℕ
text = report_of rules (result_in (summary one) all)

abbrev with_shape : List ℕ → List ℕ
with_shape shape =
    bytes "number place count actual marks deferred simplified\n0 0 5 0 1 0 0\n"
    ++ (bytes "region rule kind colour ppm cells shape\n4 2 1 112233 - - " ++ (shape ++ bytes "\nregion barrule ppm\n1 2 500000\n"))

text_is : text ≡ with_shape (bytes "3")
unfolding lines jobs samples summary
text_is = refl

-- the shape of a rule that is not there, and of one that is no scale, is not printed
unshaped : report_of others (result_in (summary one) all) ∷ report_of (others ++ others) (result_in (summary one) all) ∷ []
    ≡ with_shape (bytes "-") ∷ with_shape (bytes "-") ∷ []
unfolding lines jobs samples summary
unshaped = refl

holds : holds_marks (summary one) all ≡ true
unfolding lines summary holds_marks mark_space
holds = refl

report_short : (printed_length true 154 text ≡ 0) × (page_of true 154 text ≡ replicate 154 0)
unfolding lines jobs samples summary all_or page_length
report_short = (refl, refl)

report_exact : (printed_length true 155 text ≡ 155) × (page_of true 155 text ≡ text)
unfolding lines jobs samples summary all_or page_length
report_exact = (refl, refl)

report_longer : (printed_length true 156 text ≡ 155) × (page_of true 156 text ≡ text ++ (0 ∷ []))
unfolding lines jobs samples summary all_or page_length
report_longer = (refl, refl)

-- one mark more than the column of the colours holds, and that of the shapes
holds_not : holds_marks (summary one) (columns [] (3 ∷ [])) ∷ holds_marks (summary one) (columns (1_122_867 ∷ []) []) ∷ []
    ≡ false ∷ false ∷ []
unfolding lines summary holds_marks mark_space
holds_not = refl

report_refused : (printed_length false 156 text ≡ 0) × (page_of false 156 text ≡ replicate 156 0)
unfolding all_or
report_refused = (refl, refl)

-- ---- a refusal

abbrev short : List ℕ
short = summary_text (refusal 6 0 7 0)

short_is : short ≡ bytes "number place count actual marks deferred simplified\n6 0 7 0 0 0 0\n"
unfolding lines
short_is = refl

refusal_short : (printed_length (is_refusal 6) 65 short ≡ 0) × (page_of (is_refusal 6) 65 short ≡ replicate 65 0)
unfolding lines all_or page_length
refusal_short = (refl, refl)

refusal_exact : (printed_length (is_refusal 6) 66 short ≡ 66) × (page_of (is_refusal 6) 66 short ≡ short)
unfolding lines all_or page_length
refusal_exact = (refl, refl)

refusal_longer : (printed_length (is_refusal 6) 67 short ≡ 66) × (page_of (is_refusal 6) 67 short ≡ short ++ (0 ∷ []))
unfolding lines all_or page_length
refusal_longer = (refl, refl)

-- 0 is no refusal
number_zero : (printed_length (is_refusal 0) 67 (summary_text (refusal 0 0 7 0)) ≡ 0)
    × (page_of (is_refusal 0) 67 (summary_text (refusal 0 0 7 0)) ≡ replicate 67 0)
unfolding all_or
number_zero = (refl, refl)
