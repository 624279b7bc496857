-- `call::marks::fill_by` meets its contract, test by test. Assumes nothing.
use borrow.Author.Rules.{rules}
use Rattle.hits.specs.Painted.{fill_by}
use Rattle.call.proofs.marks.fill_by.Goals as goal

pub returns-in-CellIs : goal.returns-in-CellIs
unfolding fill_by
returns-in-CellIs c = rw c.in-CellIs.is c.packed.ensures

pub returns-in-ColorScale2 : goal.returns-in-ColorScale2
unfolding fill_by
returns-in-ColorScale2 c = search rules

pub returns-in-ColorScale3 : goal.returns-in-ColorScale3
unfolding fill_by
returns-in-ColorScale3 c = search rules

pub returns-in-DataBar : goal.returns-in-DataBar
unfolding fill_by
returns-in-DataBar c = rw c.in-DataBar.is c.packed-in-DataBar.ensures

pub returns-in-TopBottom : goal.returns-in-TopBottom
unfolding fill_by
returns-in-TopBottom c = rw c.in-TopBottom.is c.packed-in-TopBottom.ensures

pub returns-in-AboveAverage : goal.returns-in-AboveAverage
unfolding fill_by
returns-in-AboveAverage c = rw c.in-AboveAverage.is c.packed-in-AboveAverage.ensures

pub returns-in-DuplicateValues : goal.returns-in-DuplicateValues
unfolding fill_by
returns-in-DuplicateValues c = rw c.in-DuplicateValues.is c.packed-in-DuplicateValues.ensures

pub returns-in-Expression : goal.returns-in-Expression
unfolding fill_by
returns-in-Expression c = rw c.in-Expression.is c.packed-in-Expression.ensures
