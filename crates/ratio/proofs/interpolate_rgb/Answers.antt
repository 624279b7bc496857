-- `ratio::interpolate_rgb` meets its contract, channel by channel. Assumes nothing.
use Rattle.model.specs.Ratio.{interpolate_rgb}
use Rattle.ratio.proofs.interpolate_rgb.Goals as goal

pub returns : goal.returns
unfolding interpolate_rgb
returns c = simp (c.channel.ensures, c.channel-2.ensures, c.channel-3.ensures)
