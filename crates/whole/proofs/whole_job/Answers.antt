-- `whole::whole_job` meets its contract: a job that was read is decided, and a text that was not is told. Assumes nothing.
use mathlib.Core.Path.{ap, ◌∙◌}
use Rattle.memory.specs.Memory.{page, page_length}
use Rattle.jobtext.specs.Read.{read}
use Rattle.whole.proofs.Reports.{unread_reported, read_reported}
use Rattle.whole.proofs.whole_job.Goals as goal

pub returns-in-Ok : goal.returns-in-Ok
returns-in-Ok c =
    let same = read_reported (read c.args.text.now) c.in-Ok.read c.in-Ok.ensures in
    record { length = c.decide_job.ensures.length ∙ ap (page_length _) same; bytes = c.decide_job.ensures.bytes ∙ ap (page _) same }

pub returns-in-Err : goal.returns-in-Err
returns-in-Err c =
    let same = unread_reported (read c.args.text.now) c.in-Err.unread c.in-Err.ensures in
    record { length = c.report_unread.ensures.length ∙ ap (page_length _) same; bytes = c.report_unread.ensures.bytes ∙ ap (page _) same }
