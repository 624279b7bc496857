-- `call::stores::fill_each` meets its contract. The loop's invariant: up to i each entry is the one of its index. Assumes nothing.
use Rattle.std.proofs.Common.{ℕ, ◌<◌, get_or}
use Rattle.call.proofs.stores.fill_each.Given as goal

abbrev pub invariant-loop-i : goal.invariant-loop-i
invariant-loop-i g l = (k : ℕ) (d : _) → k < l.i → goal.F-post g l.entry k (get_or l.column k d)
