-- `say_interval` meets its contract, by the kind of the interval. Assumes nothing.
use Rattle.hits.proofs.said.say_interval.Goals as goal

pub returns-in-Inside : goal.returns-in-Inside
returns-in-Inside c i h = rw c.in-Inside.is (c.say_inside.ensures i h)

pub returns-in-Outside : goal.returns-in-Outside
returns-in-Outside c i h = rw c.in-Outside.is (c.say_outside.ensures i h)
