-- `hits::fits` meets its contract: the ends are out of order, or they are in order and the rest is told. Assumes nothing.
use borrow.Author.Tests.{le-leb, lt-leb}
use Rattle.hits.proofs.fits.Goals as goal

pub returns-then-to-from : goal.returns-then-to-from
returns-then-to-from c = rw (lt-leb _ _ c.if-to-from.true)

pub returns : goal.returns
returns c = rw (le-leb _ _ c.if-to-from.false)
