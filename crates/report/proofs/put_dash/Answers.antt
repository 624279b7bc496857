-- `report::put_dash` meets its contract. Assumes nothing.
use native.Mathlib.Omega.{arith}
use Rattle.put.proofs.Laws.{puts_then}
use Rattle.report.proofs.put_dash.Goals as goal

pub returns : goal.returns
returns c =
    puts_then (omega arith) c.put_byte.ensures c.put_byte-2.ensures
