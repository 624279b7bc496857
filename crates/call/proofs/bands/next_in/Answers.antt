use Rattle.hits.specs.Hits.{column_in}
use Rattle.call.proofs.Jumping.{out_more}
use Rattle.call.proofs.bands.next_in.Goals as goal

pub loop-j-preserved : goal.loop-j-preserved
unfolding column_in
loop-j-preserved c =
    out_more c.args.range c.args.cols.now c.args.i c.loop-j.j c.loop-j.invariant c.if-range-col.false
