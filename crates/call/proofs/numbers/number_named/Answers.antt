-- `call::numbers::number_named` meets its contract: 0 names no cell, and past the end of the numbers there is none. Assumes nothing.
use mathlib.Core.Path.{sym, ◌∙◌}
use native.Mathlib.Omega.{arith}
use lib.Ieee.{of_bits}
use Rattle.call.specs.Tables.{number_named}
use Rattle.call.proofs.Tables.{number_some}
use Rattle.call.proofs.numbers.number_named.Goals as goal

pub returns-then-entry-eq0 : goal.returns-then-entry-eq0
unfolding number_named of_bits
returns-then-entry-eq0 c = rw c.if-entry-eq0.true

pub returns : goal.returns
unfolding of_bits
returns c = c.at.ensures ∙ sym (number_some _ _ (omega arith))
