-- `wanted_of` meets its contract: in each arm the operator is known; the first two have a second operand. Assumes nothing.
use mathlib.Core.Bool.{true≢false}
use Rattle.model.specs.Comparison.{uses_second, compare_conditional}
use Rattle.hits.proofs.Comparisons.{wanted_less, wanted_same, wanted_more, wanted_at_most, wanted_at_least, wanted_other}
use Rattle.hits.proofs.said.wanted_of.Goals as goal

pub returns-in-Between : goal.returns-in-Between
unfolding uses_second
returns-in-Between c x y second one p q = absurd (true≢false (rw c.in-Between.is at one))

pub returns-in-NotBetween : goal.returns-in-NotBetween
unfolding uses_second
returns-in-NotBetween c x y second one p q = absurd (true≢false (rw c.in-NotBetween.is at one))

pub returns-in-Equal : goal.returns-in-Equal
unfolding compare_conditional
returns-in-Equal c x y second one p q = rw (c.wanted-in-Equal.ensures, c.in-Equal.is) (wanted_same x y)

pub returns-in-NotEqual : goal.returns-in-NotEqual
unfolding compare_conditional
returns-in-NotEqual c x y second one p q = rw (c.wanted-in-NotEqual.ensures, c.in-NotEqual.is) (wanted_other x y p q)

pub returns-in-GreaterThan : goal.returns-in-GreaterThan
unfolding compare_conditional
returns-in-GreaterThan c x y second one p q = rw (c.wanted-in-GreaterThan.ensures, c.in-GreaterThan.is) (wanted_more x y)

pub returns-in-LessThan : goal.returns-in-LessThan
unfolding compare_conditional
returns-in-LessThan c x y second one p q = rw (c.wanted-in-LessThan.ensures, c.in-LessThan.is) (wanted_less x y)

pub returns-in-GreaterThanOrEqual : goal.returns-in-GreaterThanOrEqual
unfolding compare_conditional
returns-in-GreaterThanOrEqual c x y second one p q = rw (c.wanted-in-GreaterThanOrEqual.ensures, c.in-GreaterThanOrEqual.is) (wanted_at_least x y)

pub returns-in-LessThanOrEqual : goal.returns-in-LessThanOrEqual
unfolding compare_conditional
returns-in-LessThanOrEqual c x y second one p q = rw (c.wanted-in-LessThanOrEqual.ensures, c.in-LessThanOrEqual.is) (wanted_at_most x y)
