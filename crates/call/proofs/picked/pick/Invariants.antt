-- `call::picked::pick` meets its contract. The loop's invariant: up to k the short column has the entries that the list picks.
-- Assumes nothing.
use Prim.Native.Nat.{ℕ}
use lib.ListN.{get_or}
use Rattle.call.proofs.Filling.{Filled}
use Rattle.call.proofs.picked.pick.Given as goal

abbrev pub invariant-loop-k : goal.invariant-loop-k
invariant-loop-k g l = (d : _) → Filled d (λ (j : ℕ). get_or l.column (get_or l.list j 0) d) l.initial.short l.short l.k
