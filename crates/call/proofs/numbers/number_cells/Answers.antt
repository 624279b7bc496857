-- `call::numbers::number_cells` meets its contract, where no column is shorter than the numbers and where one is. Assumes nothing.
use lib.Ieee.{nan}
use borrow.Author.Rules.{rules}
use Rattle.model.specs.Sheet.{cell_from}
use Rattle.model.specs.Readings.{numeric_cell_value}
use Rattle.cells.specs.Columns.{columns}
use Rattle.hits.specs.Said.{as_float}
use Rattle.call.proofs.numbers.number_cells.Goals as goal

pub returns-then-n-nums : goal.returns-then-n-nums
unfolding cell_from
returns-then-n-nums c rows cols i h =
    let a = c.args in
    c.fill_each.ensures
    (λ k. as_float (numeric_cell_value (cell_from (columns rows cols a.kinds.now a.wraps.now a.nums.now a.ats.now a.lens.now) k).cell))
    (λ k x below p. search rules) i nan h

pub returns : goal.returns
returns c rows cols i h =
    let a = c.args in
    c.fill_each-2.ensures
    (λ k. as_float (numeric_cell_value (cell_from (columns rows cols a.kinds.now a.wraps.now a.nums.now a.ats.now a.lens.now) k).cell))
    (λ k x below p. search rules) i nan h
