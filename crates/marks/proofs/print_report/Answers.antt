-- `marks::print_report`: what was read is the input, or its first 65,537 bytes, and what is written is the report on that, since the lent
-- bytes are as many as the longest. Assumes nothing.
use Rattle.std.proofs.Common.{◌≡◌, ◌≤◌, ◌-◌, ℕ, List, length, take, replicate, arith, ap, ◌∙◌}
use Rattle.std.proofs.Math.Seq.{take-append_seam}
use Rattle.memory.specs.Memory.{page, page_length}
use Rattle.memory.proofs.Laws.{text_fits}
use Rattle.reporttext.specs.Reports.{report_on}
use Rattle.whole.proofs.Longest.{whole_longest}
use Rattle.streams.proofs.Reading.{before, onto, cut, told_of_all}
use Rattle.marks.proofs.print_report.Goals as goal

-- a text that fits is at the front
front : (n r : ℕ) (ts bytes : List ℕ) → length ts ≤ n → r ≡ page_length n ts → bytes ≡ page n ts → take r bytes ≡ ts
front n r ts bytes h e b =
    let f = text_fits n ts h in
    ap (λ k. take k bytes) (e ∙ f.0) ∙ ap (take (length ts)) (b ∙ f.1) ∙ take-append_seam ts (replicate (n - length ts) 0)

pub returns-clause-printed : goal.returns-clause-printed
returns-clause-printed g c =
    let n = c.in_ok-length.length in
    let read = c.read_text in
    let told = front _ _ _ _ (omega (arith, whole_longest (take n read.new.text))) c.whole_job.ensures.length c.whole_job.ensures.bytes in
    onto c.write_all.result c.map_err-2.result c.map_err-2.ensures.variant c.write_all.ensures.bytes
    (told_of_all report_on 65_537 read.new.text _ _ _ (omega arith) _ read.result n _ _
    (before _ c.map_err.result _ n c.map_err.ensures.variant c.map_err.ensures.cases c.in_ok-length.was) read.ensures.count read.ensures.bytes read.ensures.end
    (ap (λ k. take k c.whole_job.new.report) c.min-n.ensures ∙ cut c.whole_job.result 45_033 c.whole_job.new.report (omega arith) ∙ told))
