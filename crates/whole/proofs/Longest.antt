-- No text has a report longer than 45,033 bytes. Assumes nothing.
use Prim.Native.Nat.{ℕ, ◌≤◌}
use mathlib.Core.List.{List, []}
use native.Mathlib.Omega.{arith}
use lib.ListN.{length}
use Rattle.model.specs.Answer.{refusal}
use Rattle.model.specs.Job.{mark_space}
use Rattle.jobtext.specs.Read.{ReadResult, read}
use Rattle.jobtext.specs.Laid.{laid}
use Rattle.jobtext.specs.Decided.{whole_space, rules_read, decided}
use Rattle.reporttext.specs.Reports.{read_report, report_on}
use Rattle.reporttext.specs.Longest.{longest}
use Rattle.reporttext.proofs.Longest.{longest_holds, refused_most}
use Rattle.whole.proofs.Reports.{no_zero}

space_marks : mark_space whole_space ≤ 1024
unfolding mark_space whole_space
space_marks = omega arith

read_longest : (r : ReadResult) → length (read_report r) ≤ longest
unfolding rules_read decided refusal
read_longest (ReadResult.is j) = longest_holds (laid j) j.limit whole_space space_marks
read_longest ReadResult.too_long = omega (arith, refused_most [] (refusal 10 0 0 0) (no_zero 9))
read_longest (ReadResult.bad_line line) = omega (arith, refused_most [] (refusal 11 line 0 0) (no_zero 10))
read_longest (ReadResult.too_many start) = omega (arith, refused_most [] (refusal 2 0 start 0) (no_zero 1))

pub whole_longest : (s : List ℕ) → length (report_on s) ≤ longest
whole_longest s = read_longest (read s)
