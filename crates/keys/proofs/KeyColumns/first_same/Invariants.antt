-- `KeyColumns::first_same` meets its contract. The loop's invariant: the first same key among those from j on is the first among all. A key
-- that differs leaves it to those after it, and the key at i is the same as itself. Assumes nothing.
use Rattle.std.specs.Prelude.{None}
use Prim.Native.Nat.{◌<◌}
use mathlib.Core.Path.{◌≡◌}
use mathlib.Core.Bool.{true}
use mathlib.Core.List.{List}
use lib.ListN.{length, get_or}
use Rattle.model.specs.Options.{Key}
use Rattle.model.specs.Readings.{has_key}
use Rattle.keys.specs.Held.{HeldIn}
use Rattle.keys.proofs.Searching.{SoughtKey}
use Rattle.keys.proofs.KeyColumns.first_same.Given as goal

abbrev pub invariant-loop-j : goal.invariant-loop-j
invariant-loop-j l = (ks : List Key) → HeldIn l.self ks → l.i < length ks → has_key (get_or ks l.i None) ≡ true
    → SoughtKey l.self.pool.now (get_or ks l.i None) ks l.j
