-- `resave::save_job` meets its contract: a job that was read is written and shown, and a text that was not is told. Assumes nothing.
use mathlib.Core.Path.{ap, ◌∙◌}
use lib.ListN.{length}
use Rattle.memory.specs.Memory.{page, page_length}
use Rattle.jobtext.specs.Read.{read}
use Rattle.resave.proofs.Reading.{unread_resaved, left_by_writer, saved_shown}
use Rattle.resave.proofs.save_job.Goals as goal

pub report_saved-requires : goal.report_saved-requires
report_saved-requires c =
    let wrote = c.write_job-answer in
    left_by_writer c.args.text.now c.args.saved.now c.in-Ok.read c.in-Ok.ensures wrote.result wrote.ensures.answer wrote.ensures.length
    wrote.ensures.bytes

pub returns-in-Ok : goal.returns-in-Ok
returns-in-Ok c =
    let wrote = c.write_job-answer in
    let told = c.report_saved in
    let all = saved_shown c.args.text.now c.args.saved.now c.in-Ok.read c.in-Ok.ensures wrote.result wrote.ensures.answer wrote.ensures.length
    wrote.ensures.bytes told.ensures.length told.ensures.bytes in
    record { length = all.0; bytes = all.1 }

pub returns-in-Err : goal.returns-in-Err
returns-in-Err c =
    let same = unread_resaved (length c.args.saved.now) (read c.args.text.now) c.in-Err.unread c.in-Err.ensures in
    record { length = c.report_unread.ensures.length ∙ ap (page_length _) same; bytes = c.report_unread.ensures.bytes ∙ ap (page _) same }
