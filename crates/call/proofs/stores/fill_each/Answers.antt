use native.Mathlib.Omega.{arith}
use Rattle.call.proofs.stores.fill_each.Goals as goal

pub returns : goal.returns
returns g c f same i d h = same i _ h (c.loop-i.invariant i d (omega arith))
