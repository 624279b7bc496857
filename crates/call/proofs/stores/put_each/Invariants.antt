-- `call::stores::put_each` meets its contract. The loop's invariant: the values left, put on from n + k, make of the column so far what all
-- of them make of the column at first. Assumes nothing.
use Rattle.std.proofs.Common.{ℕ, ◌≡◌, map, All}
use Rattle.call.proofs.Putting.{Put}
use Rattle.call.proofs.stores.put_each.Given as goal

abbrev pub invariant-loop-k : goal.invariant-loop-k
invariant-loop-k g l =
    (f : _ → ℕ) → All (λ x. (r : ℕ) → goal.F-post g l.value x r → r ≡ f x) l.items → Put l.n (map f l.items) l.initial.column l.column l.k
