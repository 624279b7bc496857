-- `keys::table::find` meets its contract. The loop's invariant: from start on, the places up to p hold other keys. Assumes nothing.
use Rattle.std.specs.Prelude.{None}
use mathlib.Core.Path.{◌≡◌}
use mathlib.Core.Bool.{true}
use mathlib.Core.List.{List}
use lib.ListN.{get_or}
use Rattle.model.specs.Options.{Key}
use Rattle.model.specs.Readings.{has_key}
use Rattle.keys.specs.Held.{HeldIn}
use Rattle.keys.proofs.Tabling.{Passed}
use Rattle.keys.proofs.table.find.Given as goal

abbrev pub invariant-loop-p : goal.invariant-loop-p
invariant-loop-p l = (ks : List Key) → HeldIn l.keys ks → has_key (get_or ks l.i None) ≡ true → Passed l.keys.pool.now ks l.places l.start l.i l.p
