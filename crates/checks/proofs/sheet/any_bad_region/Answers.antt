use native.Mathlib.Nat.{sub-zero}
use Rattle.model.specs.Job.{bad_region_at}
use Rattle.checks.proofs.Searching.{none_passed, numbers_ended}
use Rattle.checks.proofs.sheet.any_bad_region.Goals as goal

pub loop-i-init : goal.loop-i-init
loop-i-init c _ = rw sub-zero

pub loop-i-preserved : goal.loop-i-preserved
unfolding bad_region_at
loop-i-preserved c e =
    none_passed _ _ _ _ c.loop-i.invariant c.loop-i-test.true c.off_grid-bad.ensures e

pub returns : goal.returns
returns c e = numbers_ended _ _ _ (c.loop-i.invariant e) c.loop-i-test.false
