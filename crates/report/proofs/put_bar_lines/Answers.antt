use native.Mathlib.Omega.{arith}
use mathlib.Core.Path.{sym}
use lib.ListN.{length}
use Rattle.put.proofs.Laws.{puts_begun, puts_done, puts_stopped, some_of_puts, puts_as, some_as}
use Rattle.report.proofs.Lines.{bars_all, bars_more, bars_none}
use Rattle.report.proofs.put_bar_lines.Goals as goal

pub loop-i-init : goal.loop-i-init
loop-i-init c = puts_begun c.requires

pub put_bar-requires : goal.put_bar-requires
put_bar-requires c = c.loop-i.invariant.left.ready

pub returns-then-text : goal.returns-then-text
returns-then-text c =
    let a = c.args in
    some_as (
    puts_stopped (omega arith) (
    bars_more a.rules.now a.ppms.now (length a.rules.now) c.loop-i.i (omega arith) (omega arith)
    c.loop-i.invariant (puts_as c.put_bar.ensures (rw c.at.ensures)))
    c.if-text.true)
    (sym (bars_all a.rules.now a.ppms.now (length a.rules.now)))

pub loop-i-preserved : goal.loop-i-preserved
loop-i-preserved c =
    let a = c.args in
    bars_more a.rules.now a.ppms.now (length a.rules.now) c.loop-i.i (omega arith) (omega arith)
    c.loop-i.invariant (puts_as c.put_bar.ensures (rw c.at.ensures))

pub returns : goal.returns
returns c =
    let a = c.args in
    let all = puts_done c.loop-i.invariant (bars_none a.rules.now a.ppms.now (length a.rules.now) c.loop-i.i (omega arith)) in
    some_as (some_of_puts (omega arith) all) (sym (bars_all a.rules.now a.ppms.now (length a.rules.now)))
