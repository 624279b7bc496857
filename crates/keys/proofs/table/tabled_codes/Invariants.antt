-- `keys::table::tabled_codes` meets its contract. The loop's invariant: the keys before i have codes, by the table. A turn passes a cell
-- without a key, or gives one code more. Assumes nothing.
use mathlib.Core.List.{List}
use Rattle.model.specs.Options.{Key}
use Rattle.keys.specs.Held.{HeldIn}
use Rattle.keys.proofs.Tabling.{Tabled}
use Rattle.keys.proofs.table.tabled_codes.Given as goal

abbrev pub invariant-loop-i : goal.invariant-loop-i
invariant-loop-i l = (ks : List Key) → HeldIn l.keys ks → Tabled l.keys.pool.now ks l.codes l.places l.i
