-- `wanted_for` meets its contract: in each arm the operator is known. Assumes nothing.
use Rattle.model.specs.Comparison.{compare}
use Rattle.hits.proofs.Comparisons.{wanted_less, wanted_same, wanted_more, wanted_at_most, wanted_at_least, wanted_other}
use Rattle.hits.proofs.said.wanted_for.Goals as goal

pub returns-in-Equal : goal.returns-in-Equal
unfolding compare
returns-in-Equal c x y p q = rw (c.wanted.ensures, c.in-Equal.is) (wanted_same x y)

pub returns-in-NotEqual : goal.returns-in-NotEqual
unfolding compare
returns-in-NotEqual c x y p q = rw (c.wanted-in-NotEqual.ensures, c.in-NotEqual.is) (wanted_other x y p q)

pub returns-in-Less : goal.returns-in-Less
unfolding compare
returns-in-Less c x y p q = rw (c.wanted-in-Less.ensures, c.in-Less.is) (wanted_less x y)

pub returns-in-LessOrEqual : goal.returns-in-LessOrEqual
unfolding compare
returns-in-LessOrEqual c x y p q = rw (c.wanted-in-LessOrEqual.ensures, c.in-LessOrEqual.is) (wanted_at_most x y)

pub returns-in-Greater : goal.returns-in-Greater
unfolding compare
returns-in-Greater c x y p q = rw (c.wanted-in-Greater.ensures, c.in-Greater.is) (wanted_more x y)

pub returns-in-GreaterOrEqual : goal.returns-in-GreaterOrEqual
unfolding compare
returns-in-GreaterOrEqual c x y p q = rw (c.wanted-in-GreaterOrEqual.ensures, c.in-GreaterOrEqual.is) (wanted_at_least x y)
