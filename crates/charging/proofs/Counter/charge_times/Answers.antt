-- `Counter::charge_times` meets its contract: no evaluation, the first one refused, all accepted, or the first past the limit refused.
-- Assumes nothing.
use native.Mathlib.Omega.{arith}
use mathlib.Core.Path.{sym, ◌∙◌}
use Rattle.charging.specs.Charge.{spend}
use Rattle.charging.proofs.Laws.{ones_within, ones_refused, ones_past}
use Rattle.charging.proofs.Counter.charge_times.Goals as goal

pub returns-then-none : goal.returns-then-none
unfolding spend
returns-then-none c = rw c.if-none.true

pub returns-then-limit-count : goal.returns-then-limit-count
returns-then-limit-count c =
    let a = c.args in
    c.charge_one.ensures ∙ sym (ones_refused a.limit a.times a.self.count (omega (arith, c.if-none.false)) (omega arith))

pub returns-then-times-limit : goal.returns-then-times-limit
returns-then-times-limit c = let a = c.args in sym (ones_within a.limit a.times a.self.count (omega arith) (omega arith))

pub returns : goal.returns
returns c =
    let a = c.args in
    c.charge_one-2.ensures ∙ sym (ones_past a.limit a.times a.self.count (omega arith) (omega arith) (omega arith))
