-- `writer::write_job` meets its contract: a refusal of the checks is handed on, any other job is written. Assumes nothing.
use mathlib.Core.Path.{sym, ap, ◌∙◌}
use Rattle.model.specs.Lent.{job_lent}
use Rattle.checks.specs.Checked.{turned_back}
use Rattle.writer.specs.Answers.{summary_of, length_of}
use Rattle.writer.proofs.Saving.{saves_refused, saves_wrote}
use Rattle.writer.proofs.write_job.Goals as goal

pub returns-in-Err : goal.returns-in-Err
unfolding summary_of length_of
returns-in-Err c =
    let job = job_lent c.args.job in
    let refused = sym c.malformed.ensures ∙ ap turned_back c.in-Err.is in
    let all = saves_refused c.args.limit job c.args.text.now refused (c.fill.ensures.after (λ y e. e)) in
    record { answer = all.answer; length = all.length; bytes = all.bytes }

pub write_checked-requires : goal.write_checked-requires
write_checked-requires c =
    sym c.malformed.ensures ∙ ap turned_back c.in_default.is

pub returns : goal.returns
returns c =
    let job = job_lent c.args.job in
    let well = sym c.malformed.ensures ∙ ap turned_back c.in_default.is in
    let all = saves_wrote c.args.limit job c.args.text.now well c.write_checked.ensures in
    record { answer = all.answer; length = all.length; bytes = all.bytes }
