-- From what is read to the report of the definition: a refused text, and a job that is decided. Assumes nothing.
use Prim.Native.Nat.{ℕ, suc}
use mathlib.Core.Path.{◌≡◌, refl, sym, ap, ◌∙◌}
use mathlib.Core.List.{List, []}
use native.Mathlib.Omega.{arith}
use Rattle.std.specs.Prelude.{Ok, Err}
use Rattle.model.specs.Answer.{refusal, refused}
use Rattle.model.specs.Lent.{job_lent}
use Rattle.jobtext.specs.Read.{ReadResult}
use Rattle.jobtext.specs.Decided.{whole_space, rules_read, decided}
use Rattle.reporttext.specs.Report.{summary_text}
use Rattle.reporttext.specs.Reports.{job_report, read_report}
use Rattle.reporttext.proofs.Shown.{report_refused}
use Rattle.reader.specs.declared.Unread.{Unread}
use Rattle.jobmemory.specs.declared.space.LimitedJob.{LimitedJob}
use Rattle.jobmemory.specs.Unread.{unread_summary}
use Rattle.jobmemory.specs.ReadAs.{ReadAs}

pub no_zero : (n : ℕ) → suc n ≡ 0 → ⊥
no_zero n e = omega arith

pub unread_reported : (x : ReadResult) (e : Unread) → ReadAs x (Err e) → summary_text (unread_summary e) ≡ read_report x
unfolding rules_read decided refused refusal
unread_reported (ReadResult.is j) e h = absurd h
unread_reported ReadResult.too_long e h =
    let same : e ≡ Unread.TooLong = cc in
    rw same (sym (report_refused [] (refused (refusal 10 0 0 0)) (no_zero 9)))
unread_reported (ReadResult.bad_line line) e h =
    let same : e ≡ Unread.Malformed line = cc in
    rw same (sym (report_refused [] (refused (refusal 11 line 0 0)) (no_zero 10)))
unread_reported (ReadResult.too_many start) e h =
    let same : e ≡ Unread.TooMany start = cc in
    rw same (sym (report_refused [] (refused (refusal 2 0 start 0)) (no_zero 1)))

pub read_reported : (x : ReadResult) (r : LimitedJob) → ReadAs x (Ok r) → job_report (job_lent r.job) r.limit whole_space ≡ read_report x
unfolding rules_read decided
read_reported (ReadResult.is j) r h = rw (h.0, h.1)
read_reported ReadResult.too_long r h = cc
read_reported (ReadResult.bad_line line) r h = cc
read_reported (ReadResult.too_many start) r h = cc
