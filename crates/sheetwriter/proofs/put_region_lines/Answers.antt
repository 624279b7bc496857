use native.Mathlib.Omega.{arith}
use Rattle.sheetwriter.proofs.Lines.{regions_listed, lines_begun, lines_more, lines_done}
use Rattle.sheetwriter.proofs.put_region_lines.Goals as goal

pub loop-i-init : goal.loop-i-init
loop-i-init c = lines_begun c.requires

pub loop-i-preserved : goal.loop-i-preserved
loop-i-preserved c =
    let regions = c.args.regions in
    lines_more (regions_listed regions.rows.now regions.cols.now) (omega arith) c.loop-i-test.true c.loop-i.invariant c.put_region.ensures

pub returns : goal.returns
returns c =
    let regions = c.args.regions in
    lines_done (regions_listed regions.rows.now regions.cols.now) (omega arith) c.loop-i.invariant
