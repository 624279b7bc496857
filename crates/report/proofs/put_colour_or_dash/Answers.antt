-- `report::put_colour_or_dash` meets its contract, with a colour and without. Assumes nothing.
use native.Mathlib.Omega.{arith}
use Rattle.put.proofs.Laws.{puts_then, puts_as}
use Rattle.report.proofs.put_colour_or_dash.Goals as goal

pub returns-in-Some : goal.returns-in-Some
returns-in-Some c = puts_as (puts_then (omega arith) c.put_hex.ensures c.put_byte.ensures) (rw c.in-Some.is)
