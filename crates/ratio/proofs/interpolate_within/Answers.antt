-- `ratio::interpolate_within` meets its contract, channel by channel. Assumes nothing.
use Rattle.model.specs.Ratio.{interpolate_rgb}
use Rattle.ratio.proofs.interpolate_within.Goals as goal

pub returns : goal.returns
unfolding interpolate_rgb
returns c = simp (c.channel_within.ensures, c.channel_within-2.ensures, c.channel_within-3.ensures)
