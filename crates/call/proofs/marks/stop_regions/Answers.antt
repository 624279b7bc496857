use mathlib.Core.Path.{sym, ◌∙◌}
use native.Mathlib.Omega.{arith}
use lib.Seq.{set_out}
use Rattle.call.proofs.Drawing.{flagged_begun, flagged_turn, flagged_ended}
use Rattle.call.proofs.marks.stop_regions.Goals as goal
use Rattle.call.proofs.marks.stop_regions.Goals.{else-region-flags, then-region-flags}

pub loop-hit-init : goal.loop-hit-init
loop-hit-init c = flagged_begun

pub loop-hit-preserved : goal.loop-hit-preserved
loop-hit-preserved c =
    flagged_turn c.loop-hit.invariant (omega arith)
    (elim c.if-region-flags.branch [ then-region-flags w ↦ w.flags-is | else-region-flags w ↦ w.flags-is ∙ sym (set_out _ _ _ w.if-region-flags.false) ])

pub returns : goal.returns
returns c = rw (c.if-not-stop.false) (flagged_ended c.loop-hit.invariant (omega arith))
