use mathlib.Core.Path.{ap, refl}
use mathlib.Core.Bool.{not}
use Rattle.model.specs.Job.{falls_at, first_fall}
use Rattle.checks.proofs.Searching.{none_passed, numbers_ended}
use Rattle.checks.proofs.sheet.any_fall.Goals as goal

pub loop-later-init : goal.loop-later-init
unfolding first_fall
loop-later-init c = λ _. refl

pub loop-later-preserved : goal.loop-later-preserved
unfolding falls_at
loop-later-preserved c =
    (none_passed _ _ _ _ c.loop-later.invariant c.loop-later-test.true (ap not c.rises.ensures))

pub returns : goal.returns
returns c e = numbers_ended _ _ _ (c.loop-later.invariant e) c.loop-later-test.false
