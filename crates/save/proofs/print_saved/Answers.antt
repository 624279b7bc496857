-- `save::print_saved`: what was read is the input, or its first 65,537 bytes, and what is written is what that is saved as, which fits
-- into the lent bytes. Assumes nothing.
use Rattle.std.proofs.Common.{◌≡◌, ◌≤◌, ◌-◌, ℕ, List, length, take, replicate, arith, ap, ◌∙◌}
use Rattle.std.proofs.Math.Seq.{take-append_seam}
use Rattle.memory.specs.Memory.{page, page_length}
use Rattle.memory.proofs.Laws.{text_fits}
use Rattle.jobtext.specs.Read.{read}
use Rattle.savedtext.specs.Resaved.{resaved}
use Rattle.save.proofs.Fitting.{resaved_most}
use Rattle.streams.proofs.Reading.{before, onto, cut, told_of_all}
use Rattle.save.proofs.print_saved.Goals as goal

-- a text that fits is at the front
front : (n r : ℕ) (ts bytes : List ℕ) → length ts ≤ n → r ≡ page_length n ts → bytes ≡ page n ts → take r bytes ≡ ts
front n r ts bytes h e b =
    let f = text_fits n ts h in
    ap (λ k. take k bytes) (e ∙ f.0) ∙ ap (take (length ts)) (b ∙ f.1) ∙ take-append_seam ts (replicate (n - length ts) 0)

pub returns-clause-printed : goal.returns-clause-printed
returns-clause-printed g c =
    let n = c.in_ok-length.length in
    let input = c.read_text in
    let told = front _ _ _ _ (resaved_most _ (omega arith) (read (take n input.new.text))) c.save_job.ensures.length c.save_job.ensures.bytes in
    onto c.write_all.result c.map_err-2.result c.map_err-2.ensures.variant c.write_all.ensures.bytes
    (told_of_all (λ text. resaved 65_536 (read text)) 65_537 input.new.text _ _ _ (omega arith) _ input.result n _ _
    (before _ c.map_err.result _ n c.map_err.ensures.variant c.map_err.ensures.cases c.in_ok-length.was) input.ensures.count input.ensures.bytes input.ensures.end
    (ap (λ k. take k c.save_job.new.saved) c.min-n.ensures ∙ cut c.save_job.result 65_536 c.save_job.new.saved (omega arith) ∙ told))
