-- `call::numbers::number_regions` meets its contract. Assumes nothing.
use lib.Ieee.{nan}
use lib.ListN.{get_or}
use borrow.Author.Rules.{rules}
use Rattle.call.specs.Tables.{number_named}
use Rattle.call.proofs.numbers.number_regions.Goals as goal

pub returns : goal.returns
returns c i h =
    c.fill_each.ensures (λ k. number_named c.args.floats.now (get_or c.args.places.now k 0)) (λ k x below p. search rules) i nan h
