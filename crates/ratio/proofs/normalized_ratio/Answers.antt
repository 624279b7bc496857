-- `ratio::normalized_ratio` meets its contract: its two parts are the definition's. Assumes nothing.
use Rattle.model.specs.Ratio.{ratio}
use Rattle.ratio.proofs.normalized_ratio.Goals as goal

pub returns : goal.returns
unfolding ratio
returns c = λ i. record { ppm = c.normalized_ppm-ppm.ensures i; shape = c.shape_of-shape.ensures c.args.value i }
