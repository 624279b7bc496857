-- `report::put_answer` meets its contract: the lines of the marks, then those of the bars, each below its names. Assumes nothing.
use native.Mathlib.Omega.{arith}
use mathlib.Core.List.{append_assoc}
use Rattle.grammar.specs.Parts.{bytes}
use Rattle.put.proofs.Laws.{some_of_puts, some_then, some_as, stops_length, laid_length, laid_ready}
use Rattle.reporttext.specs.Report.{mark_names, bar_names, marks_text, bars_text}
use Rattle.report.proofs.put_answer.Goals as goal

pub put_mark_lines-requires : goal.put_mark_lines-requires
put_mark_lines-requires c = laid_ready c.put_bytes.ensures.laid (omega arith)

pub put_bar_lines-requires : goal.put_bar_lines-requires
put_bar_lines-requires c =
    let marks = stops_length c.put_mark_lines.ensures.stops in
    laid_ready c.put_bytes-2.ensures.laid (omega (arith, marks, laid_length c.put_bytes.ensures.laid))

pub returns : goal.returns
unfolding bytes mark_names bar_names marks_text bars_text
returns c =
    let lines = some_then (some_of_puts (omega arith) c.put_bytes.ensures) c.put_mark_lines.ensures in
    let names = some_of_puts (omega (arith, stops_length lines.stops)) c.put_bytes-2.ensures in
    some_as (some_then (some_then lines names) c.put_bar_lines.ensures) (simp append_assoc)
