-- `keys::coding::covered` meets its contract. The loop's invariant: each key passed has a code. Assumes nothing.
use Prim.Native.Nat.{ℕ, ◌<◌}
use mathlib.Core.Path.{◌≡◌}
use lib.ListN.{get_or}
use Rattle.keys.proofs.coding.covered.Given as goal

abbrev pub invariant-loop-i : goal.invariant-loop-i
invariant-loop-i l = (k : ℕ) → k < l.i → get_or l.codes k 0 ≡ 0 → get_or l.tags k 0 ≡ 0
