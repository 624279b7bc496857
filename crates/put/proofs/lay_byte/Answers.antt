-- `put::lay_byte` meets its contract: the byte is stored, or it does not fit and all is cleared. Assumes nothing.
use native.Mathlib.Omega.{arith}
use mathlib.Core.Path.{refl}
use Rattle.put.proofs.Laws.{laid_fits, laid_over}
use Rattle.put.proofs.lay_byte.Goals as goal

pub returns-then-at-text : goal.returns-then-at-text
returns-then-at-text c = laid_fits (omega arith) (omega arith) refl refl

pub returns : goal.returns
returns c = let passed = c.pass_over.ensures in laid_over (omega arith) passed.bytes passed.next
