-- The longest report that any job can have, in bytes: 1,024 marks, one at each of 1,024 regions, each of them a bar of 1,000,000 ppm, with
-- its shape, by a rule of two digits, with a count of 20 digits and ten rules or more deferred and simplified. Assumes nothing.
use Rattle.std.specs.Prelude.{ℕ, ◌≤◌, length}
use Rattle.model.specs.Job.{Job, Lengths, mark_space}
use Rattle.reporttext.specs.Reports.{job_report}

abbrev pub longest : ℕ
longest = 45_033

abbrev pub Longest : Type 0
Longest = (j : Job) (limit : ℕ) (l : Lengths) → mark_space l ≤ 1024 → length (job_report j limit l) ≤ longest
