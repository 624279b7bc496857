-- `call::gathered::gather` meets its contract. The loop's invariant: the numbers so far stand at the front, and those left go after them
-- (`Gathering`), whatever the other columns hold, of which the floats are the numbers. The measure is how many cells of the band are left.
-- Assumes nothing.
use Prim.Native.Nat.{ℕ, ◌+◌, ◌-◌, ◌≤◌}
use mathlib.Core.Path.{◌≡◌}
use mathlib.Core.List.{List}
use lib.ListN.{length}
use Rattle.cells.specs.Columns.{columns}
use Rattle.turns.specs.Bands.{BandOf}
use Rattle.call.specs.Tables.{Numbered}
use Rattle.call.proofs.Gathering.{Gathering}
use Rattle.call.proofs.gathered.gather.Given as goal

abbrev pub invariant-loop-i : goal.invariant-loop-i
invariant-loop-i l = (l.initial.start ≤ l.start) × (l.start ≤ l.i) × (l.i ≤ l.to) × (l.count + l.initial.start ≤ l.i) × (length l.values ≡ length l.initial.values)
    × ((kinds wraps nums ats lens : List ℕ) → BandOf l.range l.rows l.initial.start l.to → Numbered (columns l.rows l.cols kinds wraps nums ats lens) l.floats
    → Gathering l.range (columns l.rows l.cols kinds wraps nums ats lens) l.values l.count l.i)

abbrev pub decreases-loop-i : goal.decreases-loop-i
decreases-loop-i l = l.to - l.i
