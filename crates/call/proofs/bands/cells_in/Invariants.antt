-- `call::bands::cells_in` meets its contract. The loop's invariant: the count so far and the cells in range from i on come to all cells in
-- range, whatever the rows whose band it is and the other columns hold (`Tally`).
-- Assumes nothing.
use Prim.Native.Nat.{ℕ, ◌+◌, ◌≤◌}
use mathlib.Core.List.{List}
use Rattle.cells.specs.Columns.{columns}
use Rattle.ranges.proofs.Laws.{Tally}
use Rattle.turns.specs.Bands.{BandOf}
use Rattle.call.proofs.bands.cells_in.Given as goal

abbrev pub invariant-loop-i : goal.invariant-loop-i
invariant-loop-i l = (l.count + l.fn.band.from ≤ l.i)
    × ((rows kinds wraps nums ats lens : List ℕ) → BandOf l.range rows l.fn.band.from l.fn.band.to
    → Tally l.range (columns rows l.cols kinds wraps nums ats lens) l.count l.i)
