-- `call::ahead::charge_ahead` meets its contract: an inverted range, the cells of a range whose values are taken, the area of a
-- duplicate rule, or nothing. Assumes nothing.
use mathlib.Core.Path.{sym, ◌∙◌}
use Rattle.turns.proofs.Charges.{ahead_inverted, ahead_values, ahead_area, ahead_none}
use Rattle.call.proofs.Parting.{values_ask}
use Rattle.call.proofs.ahead.charge_ahead.Goals as goal

pub returns-then-not-upright : goal.returns-then-not-upright
returns-then-not-upright c cells regions pool name counted =
    ahead_inverted _ _ _ _ (sym c.upright.ensures ∙ c.if-not-upright.true)

pub returns-then-takes_values : goal.returns-then-takes_values
returns-then-takes_values c cells regions pool name counted =
    let takes = sym c.takes_values.ensures ∙ c.if-takes_values.true in
    c.charge_times.ensures
    ∙ rw (counted (values_ask _ takes))
    (ahead_values _ _ _ _ (sym c.upright.ensures ∙ c.if-not-upright.false) takes)

pub returns-then-charges_area : goal.returns-then-charges_area
returns-then-charges_area c cells regions pool name counted =
    c.charge_area.ensures
    ∙ rw c.area.ensures
    (ahead_area _ _ _ _ (sym c.upright.ensures ∙ c.if-not-upright.false)
    (sym c.charges_area.ensures ∙ c.if-charges_area.true))

pub returns : goal.returns
returns c cells regions pool name counted =
    ahead_none _ _ _ _ (sym c.upright.ensures ∙ c.if-not-upright.false)
    (sym c.takes_values.ensures ∙ c.if-takes_values.false) (sym c.charges_area.ensures ∙ c.if-charges_area.false)
