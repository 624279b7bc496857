-- `keys::coding::pairwise` meets its contract. The loop's invariant: up to i the array holds the names of the keys, and 0 from i on. A turn
-- stores one name more. Assumes nothing.
use mathlib.Core.Path.{◌≡◌}
use mathlib.Core.List.{List}
use lib.ListN.{length}
use Rattle.model.specs.Options.{Key}
use Rattle.keys.specs.Held.{HeldIn}
use Rattle.keys.proofs.Holding.{Named}
use Rattle.keys.proofs.coding.pairwise.Given as goal

abbrev pub invariant-loop-i : goal.invariant-loop-i
invariant-loop-i l = (ks : List Key) → HeldIn l.keys ks → length ks ≡ l.n → Named l.keys.pool.now ks l.codes l.i
