-- `hits::live` meets its contract. The loop's invariant: the count is that of the regions so far that are not stopped. Assumes nothing.
use mathlib.Core.Path.{◌≡◌}
use Rattle.hits.specs.Hits.{live_from}
use Rattle.hits.proofs.live.Given as goal

abbrev pub invariant-loop-flag : goal.invariant-loop-flag
invariant-loop-flag l = l.count ≡ live_from l.flags 0 l.flag-index
