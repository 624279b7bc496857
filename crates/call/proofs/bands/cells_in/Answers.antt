use native.Mathlib.Omega.{arith}
use lib.ListN.{get_or}
use Rattle.cells.specs.Columns.{columns}
use Rattle.hits.specs.Hits.{column_in}
use Rattle.ranges.proofs.Laws.{byte_few}
use Rattle.call.proofs.Banding.{tally_from, tally_within, tally_to}
use Rattle.call.proofs.bands.cells_in.Goals as goal

pub loop-i-init : goal.loop-i-init
loop-i-init c =
    (omega arith, λ rows kinds wraps nums ats lens b. tally_from _ b)

pub overflow_add-count : goal.overflow_add-count
unfolding column_in
overflow_add-count c =
    let a = c.args in
    omega (arith, byte_few (column_in a.range (get_or a.cols.now c.loop-i.i 0)))

pub loop-i-preserved : goal.loop-i-preserved
unfolding column_in
loop-i-preserved c =
    let l = c.loop-i in
    let a = c.args in (
      omega (arith, byte_few (column_in a.range (get_or a.cols.now l.i 0))),
      λ rows kinds wraps nums ats lens b.
          tally_within (columns rows a.cols.now kinds wraps nums ats lens) b (l.invariant.1 rows kinds wraps nums ats lens b)
          (omega arith) (omega arith),
    )

pub returns : goal.returns
returns c rows kinds wraps nums ats lens b =
    let l = c.loop-i in
    tally_to _ b (l.invariant.1 rows kinds wraps nums ats lens b) (omega (arith, b.ordered))
