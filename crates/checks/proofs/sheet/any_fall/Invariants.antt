-- `checks::sheet::any_fall` meets its contract. The loop's invariant: as long as no fall was passed, from `later` on the first fall is
-- that of all. Assumes nothing.
use Prim.Native.Nat.{◌-◌}
use mathlib.Core.Path.{◌≡◌}
use mathlib.Core.Bool.{false}
use lib.ListN.{length}
use Rattle.model.specs.Job.{first_from, falls_at, first_fall}
use Rattle.checks.proofs.sheet.any_fall.Given as goal

abbrev pub invariant-loop-later : goal.invariant-loop-later
invariant-loop-later l = (l.bad ≡ false → first_from (falls_at l.rows l.cols) l.later (length l.rows - l.later) ≡ first_fall l.rows l.cols)
