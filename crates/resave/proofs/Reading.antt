-- From what is read to what is saved: the two lines of a refused text, and the outcome of a job that was read. Assumes nothing.
use Rattle.std.specs.Prelude.{Ok, Err}
use Prim.Native.Nat.{ℕ}
use mathlib.Core.Path.{◌≡◌, ap₂, ◌∙◌}
use mathlib.Core.List.{List}
use lib.ListN.{length}
use Rattle.memory.specs.Memory.{page, page_length}
use Rattle.model.specs.Lent.{job_lent}
use Rattle.jobtext.specs.Read.{ReadResult, read}
use Rattle.reporttext.specs.Report.{summary_text}
use Rattle.reader.specs.declared.Unread.{Unread}
use Rattle.jobmemory.specs.declared.space.LimitedJob.{LimitedJob}
use Rattle.jobmemory.specs.Unread.{unread_summary}
use Rattle.jobmemory.specs.ReadAs.{ReadAs}
use Rattle.savedtext.specs.Saved.{saved_length, saved_bytes, saved}
use Rattle.savedtext.specs.Resaved.{resaved}
use Rattle.writer.specs.Answers.{Saved, summary_of, length_of}
use Rattle.resave.specs.Left.{shown, Left}
use Rattle.resave.proofs.Showing.{outcome, shows}

module _ (room : ℕ) where
  pub unread_resaved : (x : ReadResult) (e : Unread) → ReadAs x (Err e) → summary_text (unread_summary e) ≡ resaved room x
  unfolding resaved
  unread_resaved (ReadResult.is j) e h = absurd h
  unread_resaved ReadResult.too_long e h = let same : e ≡ Unread.TooLong = cc in rw same
  unread_resaved (ReadResult.bad_line line) e h = let same : e ≡ Unread.Malformed line = cc in rw same
  unread_resaved (ReadResult.too_many start) e h = let same : e ≡ Unread.TooMany start = cc in rw same

pub read_resaved : (d : List ℕ) (x : ReadResult) (r : LimitedJob) → ReadAs x (Ok r)
    → outcome r.limit (job_lent r.job) d ≡ resaved (length d) x
unfolding resaved
read_resaved d (ReadResult.is j) r h = rw (h.0, h.1)
read_resaved d ReadResult.too_long r h = cc
read_resaved d (ReadResult.bad_line line) r h = cc
read_resaved d (ReadResult.too_many start) r h = cc

module _ (s d : List ℕ) (job : LimitedJob) (is : ReadAs (read s) (Ok job)) (a : Saved) {e : List ℕ}
    (answer : summary_of a ≡ saved job.limit (job_lent job.job) (length d))
    (size : length_of a ≡ saved_length job.limit (job_lent job.job) (length d))
    (bytes : e ≡ saved_bytes job.limit (job_lent job.job) (length d)) where
  pub left_by_writer : Left a e
  left_by_writer = (shows job.limit (job_lent job.job) d a e answer size bytes).left

  -- what is shown of it
  pub saved_shown : {f : List ℕ} {n : ℕ} → n ≡ page_length (length e) (shown a e) → f ≡ page (length e) (shown a e)
      → (n ≡ page_length (length d) (resaved (length d) (read s))) × (f ≡ page (length d) (resaved (length d) (read s)))
  saved_shown n p =
      let all = shows job.limit (job_lent job.job) d a e answer size bytes in
      let same = all.is ∙ read_resaved d (read s) job is in
      (n ∙ ap₂ page_length all.long same, p ∙ ap₂ page all.long same)
