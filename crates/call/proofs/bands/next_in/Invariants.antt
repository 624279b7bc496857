-- `call::bands::next_in` meets its contract. The loop's invariant: from i up to j none is in range. The measure is what is left of the
-- band. Assumes nothing.
use Prim.Native.Nat.{ℕ, ◌≤◌, ◌<◌}
use mathlib.Core.Path.{◌≡◌}
use mathlib.Core.Bool.{false}
use lib.ListN.{get_or}
use Rattle.hits.specs.Hits.{column_in}
use Rattle.call.proofs.bands.next_in.Given as goal

abbrev pub invariant-loop-j : goal.invariant-loop-j
invariant-loop-j l = (k : ℕ) → l.i ≤ k → k < l.j → column_in l.range (get_or l.cols k 0) ≡ false
