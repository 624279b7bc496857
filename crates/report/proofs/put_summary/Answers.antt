-- `report::put_summary` meets its contract: the line of names, then the seven numbers. Assumes nothing.
use Prim.Native.Nat.{◌<◌}
use native.Mathlib.Omega.{arith}
use mathlib.Core.List.{append_assoc}
use lib.ListN.{length}
use Rattle.grammar.specs.Parts.{bytes}
use Rattle.put.specs.Put.{last}
use Rattle.put.proofs.Laws.{puts_then, puts_as}
use Rattle.reporttext.specs.Report.{summary_names, summary_line, summary_text}
use Rattle.report.proofs.put_summary.Goals as goal

pub returns : goal.returns
unfolding bytes summary_names summary_line summary_text
returns c =
    let room : length c.args.text.now.bytes.now < last =
    omega arith in
    puts_as (
    puts_then room (
    puts_then room (
    puts_then room (
    puts_then room (
    puts_then room (
    puts_then room (
    puts_then room c.put_bytes.ensures c.put_number.ensures)
    c.put_number-2.ensures)
    c.put_number-3.ensures)
    c.put_number-4.ensures)
    c.put_number-5.ensures)
    c.put_number-6.ensures)
    c.put_number-7.ensures)
    (simp append_assoc)
