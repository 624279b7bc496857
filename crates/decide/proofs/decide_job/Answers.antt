-- `decide::decide_job` meets its contract: the call is lent columns of 1,024, and its answer and columns are printed. Assumes nothing.
use mathlib.Core.Path.{refl}
use borrow.Author.Rules.{rules}
use Rattle.model.specs.Job.{rules_of}
use Rattle.model.specs.Lent.{job_lent}
use Rattle.jobtext.specs.Decided.{whole_space}
use Rattle.report.proofs.Printing.{printed_all}
use Rattle.decide.proofs.Reports.{report_printed, answer_held}
use Rattle.decide.proofs.decide_job.Goals as goal

pub returns : goal.returns
unfolding whole_space rules_of
returns c =
    let a = c.args in
    let j = job_lent a.job in
    let same = report_printed j a.limit _ c.resolve_conditional_paints-answer.result _ refl
    c.resolve_conditional_paints-answer.ensures.answer c.resolve_conditional_paints-answer.ensures.columns in
    let held = answer_held j a.limit _ c.resolve_conditional_paints-answer.result c.resolve_conditional_paints-answer.ensures.answer _
    c.resolve_conditional_paints-answer.ensures.columns in
    let told = printed_all _ held same c.write_report.ensures.length c.write_report.ensures.bytes in
    record { length = told.0; bytes = told.1 }
