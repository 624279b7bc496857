-- `ratio::interpolate_among` meets its contract, channel by channel. Assumes nothing.
use Prim.Native.Nat.{◌-◌}
use lib.Dec.{leb}
use Rattle.ratio.proofs.Among.{by_channel}
use Rattle.ratio.proofs.interpolate_among.Goals as goal

pub returns : goal.returns
returns c =
    let a = c.args in
    by_channel (leb a.place 1_000_000) a.first a.middle a.last a.place (a.place - 1_000_000)
    c.channel_among.ensures c.channel_among-2.ensures c.channel_among-3.ensures
