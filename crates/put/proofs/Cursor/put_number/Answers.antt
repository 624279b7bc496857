-- `put::Cursor::put_number` meets its contract: the digits, then the byte. Assumes nothing.
use native.Mathlib.Omega.{arith}
use Rattle.put.proofs.Laws.{puts_then}
use Rattle.put.proofs.Cursor.put_number.Goals as goal

pub returns : goal.returns
returns c = puts_then (omega arith) c.put_decimal.ensures c.put_byte.ensures
