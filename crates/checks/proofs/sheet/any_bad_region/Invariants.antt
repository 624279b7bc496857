-- `checks::sheet::any_bad_region` meets its contract. The loop's invariant: as long as no bad region was passed, from i on the first bad
-- region is that of all. Assumes nothing.
use Prim.Native.Nat.{◌-◌}
use mathlib.Core.Path.{◌≡◌}
use mathlib.Core.Bool.{false}
use lib.ListN.{length}
use Rattle.model.specs.Job.{first_from, bad_region_at}
use Rattle.checks.proofs.sheet.any_bad_region.Given as goal

abbrev pub invariant-loop-i : goal.invariant-loop-i
invariant-loop-i l = let test = bad_region_at l.regions.rows.now l.regions.cols.now in
    l.bad ≡ false → first_from test l.i (length l.regions.rows.now - l.i) ≡ first_from test 0 (length l.regions.rows.now)
