-- The longest report is that of a job text: the text of the job in LongestJob.antt, which is read, has a report of that length.
-- Assumes nothing.
use Prim.Native.Nat.{ℕ, zero, suc, ◌+◌, ◌≤◌}
use native.Mathlib.Omega.{arith}
use mathlib.Core.Path.{◌≡◌, refl}
use mathlib.Core.Bool.{false}
use mathlib.Core.List.{List, [], ◌∷◌}
use mathlib.Core.Option.{none}
use lib.Dec.{lit≤}
use lib.ListN.{length}
use Rattle.model.specs.Answer.{limited}
use Rattle.model.specs.Job.{space_short, mark_space, rules_of, run_of, result}
use Rattle.model.proofs.Computing.{jobs}
use Rattle.grammar.specs.Parts.{times_ok}
use Rattle.grammar.specs.Numbers.{sixteens}
use Rattle.jobtext.specs.Fields as Fields
use Rattle.jobtext.specs.Rules as Rules
use Rattle.jobtext.specs.Text as Text
use Rattle.jobtext.specs.Text.{job}
use Rattle.jobtext.specs.Read.{ReadResult, Readable, max_text, over, read}
use Rattle.jobtext.specs.Decided.{whole_space, rules_read, decided}
use Rattle.jobtext.proofs.Computing.{laying}
use Rattle.jobtext.proofs.Reading.{text_read}
use Rattle.reporttext.specs.Report.{report_of}
use Rattle.reporttext.specs.Reports.{report_on}
use Rattle.reporttext.specs.Longest.{longest}
use Rattle.reporttext.proofs.Computing.{lines}
use Rattle.textlaws.proofs.LongestJob.{cell_lines, regions_down, repeat, longest_job, lent, lent_is, sheet_is, well_formed}
use Rattle.textlaws.proofs.LongestJob.{deferred_line, stopping_line, later_line, up_from, rows, column}
use Rattle.textlaws.proofs.LongestRun.{longest_run, run_is, running}

unfoldable pub longest_text : List ℕ
longest_text = job.text longest_job

-- ---- the text is read

cells_ok : (row n : ℕ) → row + n ≤ 1024 → times_ok (Text.cell_line).Ok (length (cell_lines row n)) (cell_lines row n)
unfolding Text.cell_line Fields.value sixteens cell_lines
cells_ok row zero h = tt
cells_ok row (suc n) h = ((omega arith, (lit≤ tt, (lit≤ tt, lit≤ tt))), cells_ok (suc row) n (omega arith))

regions_ok : (row n : ℕ) → row + n ≤ 1024 → times_ok (Text.region_line).Ok (length (regions_down row n)) (regions_down row n)
unfolding Text.region_line regions_down
regions_ok row zero h = tt
regions_ok row (suc n) h = ((omega arith, lit≤ tt), regions_ok (suc row) n (omega arith))

repeated_ok : {A : Type 0} (ok : A → Type 0) (a : A) → ok a → (k : ℕ) (rest : List A) → times_ok ok (length rest) rest
    → times_ok ok (length (repeat k a rest)) (repeat k a rest)
unfolding repeat
repeated_ok ok a h zero rest r = r
repeated_ok ok a h (suc k) rest r = (h, repeated_ok ok a h k rest r)

deferred_ok : (Rules.rule_line).Ok deferred_line
unfolding laying
deferred_ok =
    (lit≤ tt, (lit≤ tt, (lit≤ tt, (lit≤ tt, (tt, (tt, (tt, (lit≤ tt, (tt, (tt, (lit≤ tt, (lit≤ tt, lit≤ tt))))))))))))

stopping_ok : (Rules.rule_line).Ok stopping_line
unfolding laying
stopping_ok = (lit≤ tt, (lit≤ tt, (lit≤ tt, (lit≤ tt, (tt, (tt, (tt, (lit≤ tt, (lit≤ tt, lit≤ tt)))))))))

later_ok : (Rules.rule_line).Ok later_line
unfolding laying
later_ok = (lit≤ tt, (lit≤ tt, (lit≤ tt, (lit≤ tt, (tt, (tt, (tt, (lit≤ tt, (lit≤ tt, lit≤ tt)))))))))

rules_ok : times_ok (Rules.rule_line).Ok (length longest_job.rules) longest_job.rules
rules_ok =
    repeated_ok (Rules.rule_line).Ok deferred_line deferred_ok 10 (stopping_line ∷ repeat 9 later_line [])
    (stopping_ok, repeated_ok (Rules.rule_line).Ok later_line later_ok 9 [] tt)

head_ok : (Text.head).Ok (Text.of_job longest_job).0
unfolding Text.head Fields.text_field cell_lines regions_down repeat
head_ok = (lit≤ tt, (lit≤ tt, (lit≤ tt, (lit≤ tt, (lit≤ tt, tt)))))

longest_ok : job.Ok longest_job
unfolding job Text.body_of Text.tail
longest_ok = (head_ok, (cells_ok 0 1024 (omega arith), (regions_ok 0 1024 (omega arith), rules_ok)))

counts : over (Text.of_job longest_job).0 ≡ false
unfolding over cell_lines regions_down repeat
counts = refl

text_length : length longest_text ≡ 33_413
unfolding laying cell_lines regions_down repeat longest_text
text_length = refl

pub longest_fits : length longest_text ≤ max_text
longest_fits = omega (arith, text_length)

readable : Readable longest_job
unfolding longest_text
readable = record { ok = longest_ok; counts = counts; fits = longest_fits }

pub longest_read : read longest_text ≡ ReadResult.is longest_job
unfolding longest_text
longest_read = text_read longest_job readable

-- ---- its report

space_enough : space_short lent whole_space ≡ none
unfolding laying jobs rows column up_from
space_enough = refl

result_is : result lent longest_job.limit whole_space ≡ limited longest_job.limit longest_job.start (mark_space whole_space) longest_run
unfolding result run_of
result_is = rw (well_formed, space_enough, sheet_is, run_is)

report_length : length (report_of (rules_of lent) (limited longest_job.limit longest_job.start (mark_space whole_space) longest_run))
    ≡ longest
unfolding laying jobs lines running repeat
report_length = refl

-- the longest report is attained by a text that is read
pub longest_attained : length (report_on longest_text) ≡ longest
unfolding rules_read decided
longest_attained = rw (longest_read, lent_is, result_is) report_length
