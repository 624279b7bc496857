-- `hits::any_unresolved` meets its contract. The loop's invariant: where none was found, no byte so far is 2. Assumes nothing.
use Prim.Native.Nat.{ℕ, ◌<◌}
use mathlib.Core.Path.{◌≡◌}
use mathlib.Core.Bool.{false}
use lib.ListN.{get_or}
use Rattle.hits.proofs.any_unresolved.Given as goal

abbrev pub invariant-loop-byte : goal.invariant-loop-byte
invariant-loop-byte l = l.any ≡ false → (j : ℕ) → j < l.byte-index → get_or l.said j 0 ≡ 2 → ⊥
