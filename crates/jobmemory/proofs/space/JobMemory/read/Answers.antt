-- `JobMemory::read` meets its contract: the job lies at the front of the memory, whose lengths are those of a whole job's memory, whatever it
-- held before. Assumes nothing.
use mathlib.Core.Path.{◌≡◌, sym, ◌∙◌}
use Prim.Native.Nat.{ℕ}
use native.Mathlib.Omega.{arith}
use lib.ListN.{length-replicate}
use Rattle.std.specs.Prelude.{Ok}
use Rattle.jobtext.specs.Read.{read}
use Rattle.celllines.specs.Columns.{columns}
use Rattle.fields.proofs.Laws.{error_left}
use Rattle.reader.specs.declared.ReadJob.{ReadJob}
use Rattle.reader.specs.Held.{Held, held, read_job, held_after}
use Rattle.readlaws.proofs.Fitting.{whole_memory}
use Rattle.readlaws.proofs.Fronts.{Read, job_read}
use Rattle.jobmemory.proofs.Lengths.{Whole, read_alike, left_alike, unread_as}
use Rattle.jobmemory.proofs.space.JobMemory.read.Goals as goal
use Rattle.jobmemory.proofs.space.JobMemory.read.Goals.{After-read_job}

abbrev before : After-read_job → Held
before c =
    let m = c.args.self.now in held (columns m.rows m.cols m.kinds m.wraps m.nums m.ats m.lens) m.region_rows m.region_cols m.pool

whole : (c : After-read_job) → Whole (before c)
whole c =
    let long = length-replicate {A = ℕ} 1024 0 in
    record {
      rows = omega (arith, long);
      cols = omega (arith, long);
      kinds = omega (arith, long);
      wraps = omega (arith, long);
      nums = omega (arith, long);
      ats = omega (arith, long);
      lens = omega (arith, long);
      region_rows = omega (arith, long);
      region_cols = omega (arith, long);
      pool = omega (arith, length-replicate {A = ℕ} 32_768 0);
    }

pub returns-in_err-job : goal.returns-in_err-job
returns-in_err-job c =
    let w = whole (goal.at.returns-in_err-job c).After-read_job in
    rw (error_left c.from_residual.result c.from_residual.ensures.1)
    (unread_as c.args.text.now (c.in_err-job.ensures.value ∙ read_alike _ w (read c.args.text.now)))

-- what was read lies in the memory
abbrev after : After-read_job → Held
after c =
    let m = c.read_job.new in held (columns m.rows m.cols m.kinds m.wraps m.nums m.ats m.lens) m.regionrows m.regioncols m.pool

module _ (c : After-read_job) {job : ReadJob} (is : c.read_job.result ≡ Ok job) where
  says : Ok job ≡ read_job whole_memory (read c.args.text.now)
  says = sym is ∙ (c.read_job.ensures.value ∙ read_alike _ (whole c) (read c.args.text.now))

  leaves : after c ≡ held_after (read c.args.text.now) whole_memory
  leaves = c.read_job.ensures.pool_after ∙ left_alike _ (whole c) (read c.args.text.now)

  read_is : Read c.args.text.now says leaves
  read_is = job_read c.args.text.now says leaves

pub shared_ref_as_front-result : goal.shared_ref_as_front-result
shared_ref_as_front-result c = (read_is (goal.at.shared_ref_as_front-result c).After-read_job c.in_ok-job.was).cells

pub shared_ref_as_front-result-8 : goal.shared_ref_as_front-result-8
shared_ref_as_front-result-8 c = (read_is (goal.at.shared_ref_as_front-result-8 c).After-read_job c.in_ok-job.was).regions

pub shared_ref_as_front-result-10 : goal.shared_ref_as_front-result-10
shared_ref_as_front-result-10 c = (read_is (goal.at.shared_ref_as_front-result-10 c).After-read_job c.in_ok-job.was).used

pub returns : goal.returns
returns c = let r = read_is (goal.at.returns c).After-read_job c.in_ok-job.was in rw (r.says, c.insert-rules.ensures.value) (r.holds, r.limit)
