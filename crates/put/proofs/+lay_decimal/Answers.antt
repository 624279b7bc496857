-- `put::lay_decimal` meets its contract. A number of one digit is one byte; else the digits of its tenth part stand ahead of the last.
-- Assumes nothing.
use native.Mathlib.Omega.{arith}
use Rattle.grammar.proofs.Decimals.{decimal_small, decimal_large}
use Rattle.put.proofs.Laws.{laid_then, laid_as}
use Rattle.put.proofs.+lay_decimal.Goals as goal

pub returns-then-n-lt10 : goal.returns-then-n-lt10
returns-then-n-lt10 t c = laid_as c.lay_byte.ensures (decimal_small _ (omega arith))

pub returns-else-n-lt10 : goal.returns-else-n-lt10
returns-else-n-lt10 t c =
    laid_as (laid_then (omega arith) c.lay_decimal-end.ensures c.lay_byte-else-n-lt10.ensures)
    (decimal_large _ (omega arith) (omega arith))
