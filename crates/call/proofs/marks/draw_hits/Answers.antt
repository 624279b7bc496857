use mathlib.Core.Path.{refl}
use native.Mathlib.Omega.{arith}
use Rattle.call.proofs.Drawing.{drawn_begun, drawn_turn, drawn_ended}
use Rattle.call.proofs.marks.draw_hits.Goals as goal

pub loop-hit-init : goal.loop-hit-init
loop-hit-init c = drawn_begun

pub loop-hit-preserved : goal.loop-hit-preserved
loop-hit-preserved c = drawn_turn c.loop-hit.invariant (omega arith) refl c.draw_bar.ensures

pub returns : goal.returns
returns c = drawn_ended c.loop-hit.invariant (omega arith)
