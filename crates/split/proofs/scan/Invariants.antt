-- `scan` meets its contract. The loop's invariant: the scan of what is left, in or out of quotes as `quoted` says, is the whole scan.
-- Each arm takes one byte by the law of its case. Assumes nothing.
use mathlib.Core.Path.{◌≡◌}
use mathlib.Core.Bool.{false}
use Rattle.model.specs.Split.{scan}
use Rattle.split.proofs.Scanning.{left_at}
use Rattle.split.proofs.scan.Given as goal

abbrev pub invariant-loop-at : goal.invariant-loop-at
invariant-loop-at l = left_at l.bytes l.at l.quoted ≡ scan false 0 l.bytes
