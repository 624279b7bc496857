-- `call::marks::put_ppms` meets its contract: a bar has a ratio, and any other test 0. Assumes nothing.
use mathlib.Core.Path.{◌∙◌}
use lib.Ieee.{nan}
use lib.ListN.{get_or}
use Rattle.hits.specs.Painted.{ppm_by}
use Rattle.turns.proofs.Planning.{no_bar_test}
use Rattle.call.proofs.Painting.{unbarred, alike}
use borrow.Enum.Refused.{opened}
use Rattle.call.proofs.marks.put_ppms.Goals as goal

pub returns-in-DataBar : goal.returns-in-DataBar
unfolding ppm_by
returns-in-DataBar c =
    rw c.in-DataBar.is c.put_ratios.ensures

pub returns : goal.returns
returns c =
    let a = c.args in
    let plain = unbarred a.test (no_bar_test _ (opened c.in_default.in_default-own.keys2)) in
    c.put_same.ensures ∙ alike a.column.now a.n _ 0 (λ h. plain.ppm (get_or a.values.now h nan)) a.hits.now
