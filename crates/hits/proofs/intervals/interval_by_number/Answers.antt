-- `interval_by_number` meets its contract: in each arm the test is known: it paints every number, by an interval, or none. Assumes nothing.
use mathlib.Core.Path.{sym}
use lib.Ieee.{neg, of_bits, div}
use Rattle.model.specs.Rule.{barred}
use Rattle.hits.specs.Verdict.{by_number}
use Rattle.hits.specs.Said.{byte_of, say_interval}
use Rattle.hits.proofs.Comparisons.{meets_every, meets_none}
use Rattle.hits.proofs.Verdicts.{scaled_byte, halves_byte, painted_byte}
use Rattle.hits.proofs.intervals.interval_by_number.Goals as goal

pub returns-in-CellIs : goal.returns-in-CellIs
unfolding say_interval by_number byte_of of_bits div neg
returns-in-CellIs c x imported p = rw (c.in-CellIs.is, meets_none x)

pub returns-in-ColorScale2 : goal.returns-in-ColorScale2
unfolding say_interval by_number byte_of of_bits div neg
returns-in-ColorScale2 c x imported p = rw (c.in-ColorScale2.is, meets_every x p) (sym (scaled_byte imported 0 _ _ _))

pub returns-in-ColorScale3 : goal.returns-in-ColorScale3
unfolding say_interval of_bits div neg
returns-in-ColorScale3 c x imported p =
    let a = c.in-ColorScale3 in
    rw (c.in-ColorScale3.is, meets_every x p)
    (sym (halves_byte a.min a.mid a.max a.least a.midpoint a.greatest imported x))

pub returns-in-DataBar : goal.returns-in-DataBar
unfolding say_interval by_number byte_of of_bits div neg barred
returns-in-DataBar c x imported p = rw (c.in-DataBar.is, meets_every x p)

pub returns-in-TopBottom : goal.returns-in-TopBottom
unfolding say_interval by_number
returns-in-TopBottom c x imported p =
    rw (c.in-TopBottom.is, c.interval_of_rank.ensures x p) (sym (painted_byte _ imported _))

pub returns-in-AboveAverage : goal.returns-in-AboveAverage
unfolding say_interval by_number
returns-in-AboveAverage c x imported p =
    rw (c.in-AboveAverage.is, c.interval_of_average.ensures x p) (sym (painted_byte _ imported _))

pub returns-in-DuplicateValues : goal.returns-in-DuplicateValues
unfolding say_interval by_number byte_of of_bits div neg
returns-in-DuplicateValues c x imported p = rw (c.in-DuplicateValues.is, meets_none x)

pub returns-in-Expression : goal.returns-in-Expression
unfolding say_interval by_number byte_of of_bits div neg
returns-in-Expression c x imported p = rw (c.in-Expression.is, meets_none x)
