-- `a1reader::mark_at` meets its contract, case by case. Assumes nothing.
use native.Mathlib.Omega.{arith}
use Rattle.a1reader.proofs.Columns.{mark_there, mark_none, mark_past}
use Rattle.a1reader.proofs.mark_at.Goals as goal
use Rattle.a1reader.proofs.mark_at.Goals.{else-at-s-via-then-at-s+else-s-at-eq36, else-at-s-via-else-at-s}

pub returns-then-s-at-eq36 : goal.returns-then-s-at-eq36
returns-then-s-at-eq36 c = mark_there _ _ c.if-s-at-eq36.true

pub returns : goal.returns
returns c =
    elim c.else-at-s.branch [
      | else-at-s-via-then-at-s+else-s-at-eq36 w ↦ mark_none _ _ w.if-s-at-eq36.false
      | else-at-s-via-else-at-s w ↦ mark_past _ _ (omega (arith, w.if-at-s.false))
    ]
