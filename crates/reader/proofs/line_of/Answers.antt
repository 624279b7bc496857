-- `reader::line_of` meets its contract. Assumes nothing.
use mathlib.Core.Path.{◌∙◌}
use Rattle.reader.proofs.LineCounts.{line_counted}
use Rattle.reader.proofs.line_of.Goals as goal

pub returns : goal.returns
returns c = line_counted c.args.s.now c.args.at (c.line_feeds.ensures ∙ rw c.min-end.ensures)
