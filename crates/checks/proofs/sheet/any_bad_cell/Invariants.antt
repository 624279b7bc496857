-- `checks::sheet::any_bad_cell` meets its contract. The loop's invariant: as long as no bad cell was passed, from i on the first bad cell
-- is that of all. Assumes nothing.
use Prim.Native.Nat.{◌-◌}
use mathlib.Core.Path.{◌≡◌}
use mathlib.Core.Bool.{false}
use lib.ListN.{length}
use Rattle.model.specs.Job.{first_from, bad_cell_at}
use Rattle.model.specs.Lent.{cells_lent}
use Rattle.checks.proofs.sheet.any_bad_cell.Given as goal

abbrev pub invariant-loop-i : goal.invariant-loop-i
invariant-loop-i l = let test = bad_cell_at l.pool (cells_lent l.cells) in
    l.bad ≡ false → first_from test l.i (length l.cells.rows.now - l.i) ≡ first_from test 0 (length l.cells.rows.now)
