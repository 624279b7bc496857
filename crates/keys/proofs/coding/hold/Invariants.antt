-- `keys::coding::hold` meets its contract. The loop's invariant: up to i the columns hold the tags and words of the keys, and 0 from i on.
-- A turn stores those of one key more. Assumes nothing.
use Prim.Native.Nat.{ℕ}
use mathlib.Core.List.{List}
use Rattle.cells.specs.Columns.{columns}
use Rattle.keys.specs.Names.{keys_held}
use Rattle.keys.proofs.Holding.{Holding}
use Rattle.keys.proofs.coding.hold.Given as goal

abbrev pub invariant-loop-i : goal.invariant-loop-i
invariant-loop-i l = (cols : List ℕ) → Holding l.pool (keys_held l.pool (columns l.rows cols l.kinds l.wraps l.nums l.ats l.lens) 0 l.i-end) l.tags l.words l.i
