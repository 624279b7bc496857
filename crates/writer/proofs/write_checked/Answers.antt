-- `writer::write_checked` meets its contract: the text is counted, and put where it fits. Assumes nothing.
use Prim.Native.Nat.{◌≤◌, ◌<◌}
use native.Mathlib.Omega.{arith}
use mathlib.Core.Logic.{◌⊎◌, ⊎_elim, inl, inr}
use lib.ListN.{length}
use Rattle.model.specs.Lent.{job_lent}
use Rattle.jobtext.specs.Read.{max_text}
use Rattle.put.proofs.Laws.{laid_counted}
use Rattle.savedtext.specs.Saved.{text_of}
use Rattle.savedtext.proofs.Lengths.{text_short}
use Rattle.writer.specs.Answers.{summary_of, length_of}
use Rattle.writer.proofs.Saving.{wrote_nothing, wrote_whole}
use Rattle.writer.proofs.write_checked.Goals as goal

pub returns-then-text-needed : goal.returns-then-text-needed
unfolding summary_of length_of
returns-then-text-needed c =
    let job = job_lent c.args.job in
    let text = text_of c.args.limit job in
    let needed = laid_counted c.put_job.ensures.laid (omega (arith, text_short c.args.limit job c.requires)) in
    let over : (length c.args.text.now < c.put_job.new.text.at) ⊎ (max_text < c.put_job.new.text.at) =
    ⊎_elim (λ t. inl t) (λ t. inr t.1) c.then-text-needed.either in
    wrote_nothing job.start text c.args.text.now needed over (c.fill.ensures.after (λ y e. e))

pub returns : goal.returns
unfolding summary_of length_of
returns c =
    let job = job_lent c.args.job in
    let text = text_of c.args.limit job in
    let needed = laid_counted c.put_job.ensures.laid (omega (arith, text_short c.args.limit job c.requires)) in
    let small : c.put_job.new.text.at ≤ max_text = c.if-needed-gt-MAX_TEXT.false in
    wrote_whole job.start text c.args.text.now (omega arith)
    c.put_job-2.ensures.laid (omega (arith, needed, c.if-text-needed.false)) (omega (arith, needed, small)) c.keep-length.ensures.length
    (grind arith)
