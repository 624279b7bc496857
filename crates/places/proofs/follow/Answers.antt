use mathlib.Core.Path.{◌≡◌, sym, ◌∙◌}
use Rattle.cells.specs.Columns.{coordinate_at}
use Rattle.places.specs.Walk.{side}
use Rattle.places.proofs.Walking.{walking_before, walking_at, walking_after, walking_cells_ended, walking_regions_ended}
use Rattle.places.proofs.follow.Goals as goal
use Rattle.places.proofs.follow.Goals.{After-compare}

-- the side that is found is that of the two coordinates
compared : (c : After-compare)
    → c.compare.result
    ≡ side (coordinate_at c.args.rows.now c.args.cols.now c.loop-i.i) (coordinate_at c.args.region_rows.now c.args.region_cols.now c.loop-i.k)
compared c = c.compare.ensures ∙ rw (c.coordinate_at-cell.ensures, c.coordinate_at-region.ensures)

pub loop-i-preserved-in-Less : goal.loop-i-preserved-in-Less
loop-i-preserved-in-Less c =
    walking_before c.loop-i.invariant c.loop-i-test.true c.if-k-region_rows.true
    (sym (compared (goal.at.loop-i-preserved-in-Less c).After-compare) ∙ c.in-Less.is)

pub loop-i-preserved-in-Equal : goal.loop-i-preserved-in-Equal
loop-i-preserved-in-Equal c =
    walking_at c.loop-i.invariant c.loop-i-test.true c.if-k-region_rows.true c.requires.1
    (sym (compared (goal.at.loop-i-preserved-in-Equal c).After-compare) ∙ c.in-Equal.is)

pub loop-i-preserved : goal.loop-i-preserved
loop-i-preserved c =
    walking_after c.loop-i.invariant c.loop-i-test.true c.if-k-region_rows.true c.requires.1
    (sym (compared (goal.at.loop-i-preserved c).After-compare) ∙ c.in-Greater.is)

pub returns-else-k-region_rows : goal.returns-else-k-region_rows
returns-else-k-region_rows c =
    let told = walking_regions_ended c.loop-i.invariant c.requires.1 c.if-k-region_rows.false in
    record { comparisons = told.0; places = told.1 }

pub returns-after-loop-i : goal.returns-after-loop-i
returns-after-loop-i c =
    let told = walking_cells_ended c.loop-i.invariant c.requires.1 c.loop-i-test.false in
    record { comparisons = told.0; places = told.1 }
