-- `Counter::charge_area` meets its contract: its three returns are the three outcomes of a charge. Assumes nothing.
use Prim.Native.Nat.{◌+◌}
use native.Mathlib.Omega.{arith}
use mathlib.Core.Path.{◌≡◌, sym}
use Rattle.charging.specs.Charge.{area, size, stored}
use Rattle.charging.proofs.Laws.{charge_overflows, charge_exceeds, charge_within}
use Rattle.charging.proofs.Counter.charge_area.Goals as goal

pub returns-in_default : goal.returns-in_default
unfolding size
returns-in_default c = let a = c.args in sym (charge_overflows a.limit a.self.count (area a.area) (omega arith))

pub returns-then-limit-actual : goal.returns-then-limit-actual
unfolding size stored
returns-then-limit-actual c =
    let a = c.args in
    let sum : c.in-Some.actual ≡ a.self.count + a.area = omega arith in
    rw sum (sym (charge_exceeds a.limit a.self.count (area a.area) (omega arith) (omega arith)))

pub returns : goal.returns
unfolding size
returns c =
    let a = c.args in
    let sum : c.in-Some.actual ≡ a.self.count + a.area = omega arith in
    rw sum (sym (charge_within a.limit a.self.count (area a.area) (omega arith) (omega arith)))
