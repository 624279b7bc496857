-- `call::marks::draw_hits` meets its contract. The loop's invariant: the regions left make of the bars so far what all of them make of the
-- bars at first. Assumes nothing.
use lib.Ieee.{nan}
use lib.ListN.{get_or}
use Rattle.model.specs.Ratio.{ratio}
use Rattle.turns.specs.Emit.{bar_columns}
use Rattle.call.proofs.Drawing.{Drawn}
use Rattle.call.proofs.marks.draw_hits.Given as goal

abbrev pub invariant-loop-hit : goal.invariant-loop-hit
invariant-loop-hit l = Drawn l.rule (λ h. ratio (get_or l.values h nan) l.least l.greatest) l.hits (bar_columns l.initial.rules l.initial.ppms) (bar_columns l.rules l.ppms) l.hit-index
