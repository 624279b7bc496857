-- `report::put_bar` meets its contract, for a region without a bar and with one. Assumes nothing.
use Prim.Native.Nat.{◌<◌}
use native.Mathlib.Omega.{arith}
use mathlib.Core.Path.{refl, ◌∙◌}
use mathlib.Core.List.{append_assoc}
use lib.ListN.{length}
use Rattle.put.specs.Put.{last}
use Rattle.put.proofs.Laws.{puts_then, puts_as}
use Rattle.report.proofs.Lines.{bar_none, bar_some}
use Rattle.report.proofs.put_bar.Goals as goal

pub returns-then-rule-eq0 : goal.returns-then-rule-eq0
returns-then-rule-eq0 c = puts_as (record { laid = c.requires; lender = refl }) (bar_none _ _ _ (omega arith))

pub returns : goal.returns
returns c =
    let room : length c.args.text.now.bytes.now < last = omega arith in
    puts_as (puts_then room (puts_then room c.put_number.ensures c.put_number-2.ensures) c.put_number-3.ensures)
    (bar_some c.args.region c.args.rule c.args.ppm (omega arith) ∙ simp append_assoc)
