-- `report::put_mark_at` meets its contract: what the six columns hold at a place. Assumes nothing.
use Rattle.put.proofs.Laws.{puts_as}
use Rattle.report.proofs.put_mark_at.Goals as goal

pub returns : goal.returns
returns c =
    puts_as c.put_mark.ensures
    (rw (
      c.at.ensures,
      c.at-2.ensures,
      c.at-3.ensures,
      c.at-4.ensures,
      c.at-5.ensures,
      c.at-6.ensures,
    ))
