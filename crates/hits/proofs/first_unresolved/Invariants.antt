-- `hits::first_unresolved` meets its contract. The loop's invariant: no region so far is in range, not stopped, and unresolved. Assumes
-- nothing.
use Prim.Native.Nat.{ℕ, ◌<◌}
use mathlib.Core.Path.{◌≡◌}
use mathlib.Core.Bool.{false}
use Rattle.hits.specs.Chosen.{stands}
use Rattle.hits.proofs.first_unresolved.Given as goal

abbrev pub invariant-loop-i : goal.invariant-loop-i
invariant-loop-i l = (j : ℕ) → j < l.i → stands 2 l.range l.flags l.cols l.said j ≡ false
