-- `report_unread` meets its contract: each refusal is told by its number and values. Assumes nothing.
use mathlib.Core.Path.{◌≡◌, refl, sym, ap}
use Rattle.reader.specs.declared.Unread.{Unread}
use Rattle.reporttext.specs.Report.{summary_text}
use Rattle.report.proofs.Printing.{printed_all}
use Rattle.jobmemory.specs.Unread.{unread_summary}
use Rattle.jobmemory.proofs.report_unread.Goals as goal

text_is : {u v : Unread} → u ≡ v → summary_text (unread_summary v) ≡ summary_text (unread_summary u)
text_is is = ap (λ (u : Unread). summary_text (unread_summary u)) (sym is)

pub returns-in-TooMany : goal.returns-in-TooMany
returns-in-TooMany c =
    let told = printed_all _ refl (text_is c.in-TooMany.is) c.write_refusal.ensures.length c.write_refusal.ensures.bytes in
    record { length = told.0; bytes = told.1 }

pub returns-in-SpaceShort : goal.returns-in-SpaceShort
returns-in-SpaceShort c =
    let told = printed_all _ refl (text_is c.in-SpaceShort.is) c.write_refusal-in-SpaceShort.ensures.length c.write_refusal-in-SpaceShort.ensures.bytes in
    record { length = told.0; bytes = told.1 }

pub returns-in-TooLong : goal.returns-in-TooLong
returns-in-TooLong c =
    let told = printed_all _ refl (text_is c.in-TooLong.is) c.write_refusal-in-TooLong.ensures.length c.write_refusal-in-TooLong.ensures.bytes in
    record { length = told.0; bytes = told.1 }

pub returns-in-Malformed : goal.returns-in-Malformed
returns-in-Malformed c =
    let told = printed_all _ refl (text_is c.in-Malformed.is) c.write_refusal-in-Malformed.ensures.length c.write_refusal-in-Malformed.ensures.bytes in
    record { length = told.0; bytes = told.1 }
