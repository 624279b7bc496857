-- What is printed from the answer and the columns of a job that was lent space for 1,024 is the report of its result, and the columns
-- hold all its marks. Assumes nothing.
use Rattle.model.specs.declared.Refusal.{Refusal}
use Rattle.std.specs.Prelude.{Err, Ok}
use Prim.Native.Nat.{ℕ, ◌≤◌}
use native.Mathlib.Omega.{arith}
use mathlib.Core.Path.{◌≡◌, refl, sym, ap, ◌∙◌}
use mathlib.Core.Logic.{◌⊎◌, inl, inr}
use mathlib.Core.Bool.{true}
use lib.ListN.{length}
use borrow.Author.Tests.{le-leb}
use Rattle.model.specs.Options.{Answer}
use Rattle.model.specs.Answer.{Summary, Result, refused_by, summary, refusal, answer, answered}
use Rattle.model.specs.Job.{Job, Lengths, mark_space, rules_of, run_of, result}
use Rattle.model.specs.Columns.{Columns, columns_of}
use Rattle.laws.specs.Demands.{lengths_of}
use Rattle.laws.proofs.Results.{WholeJob, Refused, result_is}
use Rattle.laws.proofs.DemandOne.{refused_unanswered, demand_one}
use Rattle.jobtext.specs.Decided.{whole_space}
use Rattle.reporttext.specs.Report.{report_of}
use Rattle.reporttext.specs.Reports.{job_report}
use Rattle.reporttext.specs.Shown.{printed, result_in, holds_marks}
use Rattle.reporttext.proofs.Shown.{job_report_lem}

-- the columns that a report shows
abbrev shown : Columns → Columns
shown c = printed c.regions c.rules c.kinds c.colours c.ppms c.shapes c.bar_rules c.bar_ppms

-- a result does not look at the scratch
result_shown : (s : Summary) (c : Columns) → result_in s (shown c) ≡ result_in s c
unfolding result_in
result_shown s c = refl

-- with space for 1,024, what is printed from a job's answer and columns is the report of its result
module _ (j : Job) (limit : ℕ) (l : Lengths) (a : Answer) (c : Columns) where
  pub report_printed : l ≡ whole_space → summary a ≡ (result j limit l).summary → c ≡ columns_of j limit l
      → report_of (rules_of j) (result_in (summary a) (shown c)) ≡ job_report j limit whole_space
  report_printed roomy answer columns =
      ap (report_of (rules_of j)) (result_shown (summary a) c)
      ∙ ap (λ (s : Summary). report_of (rules_of j) (result_in s c)) answer
      ∙ ap (λ (x : Columns). report_of (rules_of j) (result_in (result j limit l).summary x)) columns
      ∙ job_report_lem j limit l
      ∙ ap (λ (x : Lengths). job_report j limit x) roomy

-- ---- the marks

refused_marks : (r : Refusal) → (refused_by r).marks ≡ 0
unfolding refused_by refusal
refused_marks (Refusal.LengthsDiffer count) = refl
refused_marks (Refusal.TooMany count) = refl
refused_marks (Refusal.OutOfBounds place count) = refl
refused_marks (Refusal.NotRising place count) = refl
refused_marks (Refusal.NameOutside place count) = refl
refused_marks (Refusal.SpaceShort count) = refl
refused_marks (Refusal.LimitExceeded count actual) = refl
refused_marks (Refusal.CoordinateOverflow count) = refl
refused_marks (Refusal.MarksExceedSpace count actual) = refl

refusal_marks : (a : Answer) → ((summary a).number ≡ 0 → ⊥) → (summary a).marks ≡ 0
unfolding summary answer
refusal_marks (Ok a) h = absurd (h refl)
refusal_marks (Err r) h = refused_marks r

shown_space : (c : Columns) → mark_space (lengths_of (shown c)) ≡ mark_space (lengths_of c)
unfolding mark_space
shown_space c = refl

module _ (j : Job) (limit : ℕ) (l : Lengths) (a : Answer) (told : summary a ≡ (result j limit l).summary) where
  whole_marks : WholeJob j limit l → (summary a).marks ≡ length (run_of j).marks
  unfolding answered answer
  whole_marks w = ap (λ (s : Summary). s.marks) told ∙ ap (λ (r : Result). r.summary.marks) w.run.is

  -- an answer has no more marks than there is space
  marks_within : WholeJob j limit l ⊎ Refused (result j limit l) → (summary a).marks ≤ mark_space l
  marks_within (inl w) = omega (arith, whole_marks w, w.run.fits)
  marks_within (inr r) =
      let unanswered : (summary a).number ≡ 0 → ⊥ =
      λ z. refused_unanswered j limit l r (ap (λ (s : Summary). s.number) (sym told) ∙ z) in
      omega (arith, refusal_marks a unanswered)

  pub answer_held : (c : Columns) → c ≡ columns_of j limit l → holds_marks (summary a) (shown c) ≡ true
  unfolding holds_marks
  answer_held c columns =
      let same : mark_space (lengths_of (shown c)) ≡ mark_space l =
      shown_space c ∙ (ap (λ (x : Columns). mark_space (lengths_of x)) columns ∙ ap mark_space (demand_one j limit l).lengths) in
      le-leb (summary a).marks (mark_space (lengths_of (shown c))) (omega (arith, marks_within (result_is j limit l)))
