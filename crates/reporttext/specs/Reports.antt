-- The report of a job, and of a job text: that of its result, by its rules. Assumes nothing.
use Rattle.std.specs.Prelude.{ℕ, List}
use Rattle.model.specs.Job.{Job, Lengths, rules_of, result}
use Rattle.jobtext.specs.Read.{ReadResult, read}
use Rattle.jobtext.specs.Decided.{rules_read, decided}
use Rattle.reporttext.specs.Report.{report_of}

abbrev pub job_report : Job → ℕ → Lengths → List ℕ
job_report j limit l = report_of (rules_of j) (result j limit l)

-- of what a text is read as
abbrev pub read_report : ReadResult → List ℕ
read_report r = report_of (rules_read r) (decided r)

-- print (decide (read text))
abbrev pub report_on : List ℕ → List ℕ
report_on text = read_report (read text)
