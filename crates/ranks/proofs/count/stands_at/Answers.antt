-- `ranks::count::stands_at` meets its contract: its two tests are those of the definition. Assumes nothing.
use Rattle.std.proofs.Common.{le-leb}
use borrow.Author.Tests.{lt-leb}
use Rattle.ranks.proofs.count.stands_at.Goals as goal

pub returns-then-count_below-k : goal.returns-then-count_below-k
returns-then-count_below-k c = rw (← c.count_below.ensures, le-leb _ _ c.if-count_below-k.true, c.count_up_to.ensures)

pub returns-else-count_below-k : goal.returns-else-count_below-k
returns-else-count_below-k c = rw (← c.count_below.ensures, lt-leb _ _ c.if-count_below-k.false)
