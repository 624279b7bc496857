-- `interval_of` meets its contract: in each arm the operator is known, and its interval is that comparison. Assumes nothing.
use lib.Ieee.{neg, of_bits, div}
use Rattle.model.specs.Comparison.{between, not_between, compare_conditional}
use Rattle.hits.specs.Said.{meets}
use Rattle.hits.proofs.Numbers.{finite_number}
use Rattle.hits.proofs.Comparisons.{meets_above, meets_below, meets_at_least, meets_at_most, meets_same, meets_other}
use Rattle.hits.proofs.intervals.interval_of.Goals as goal

pub returns-in-Between : goal.returns-in-Between
unfolding compare_conditional between not_between meets
returns-in-Between c x p q = rw c.in-Between.is

pub returns-in-NotBetween : goal.returns-in-NotBetween
unfolding compare_conditional between not_between meets
returns-in-NotBetween c x p q = rw c.in-NotBetween.is

pub returns-in-Equal : goal.returns-in-Equal
unfolding compare_conditional
returns-in-Equal c x p q =
    let a = c.args.a in
    rw c.in-Equal.is (meets_same x q a (finite_number a p))

pub returns-in-NotEqual : goal.returns-in-NotEqual
unfolding compare_conditional
returns-in-NotEqual c x p q =
    let a = c.args.a in
    rw c.in-NotEqual.is (meets_other x q a (finite_number a p))

pub returns-in-GreaterThan : goal.returns-in-GreaterThan
unfolding compare_conditional of_bits div neg
returns-in-GreaterThan c x p q =
    let a = c.args.a in
    rw c.in-GreaterThan.is (meets_above x a)

pub returns-in-LessThan : goal.returns-in-LessThan
unfolding compare_conditional of_bits div neg
returns-in-LessThan c x p q =
    let a = c.args.a in
    rw c.in-LessThan.is (meets_below x a)

pub returns-in-GreaterThanOrEqual : goal.returns-in-GreaterThanOrEqual
unfolding compare_conditional of_bits div neg
returns-in-GreaterThanOrEqual c x p q =
    let a = c.args.a in
    rw c.in-GreaterThanOrEqual.is (meets_at_least x q a)

pub returns-in-LessThanOrEqual : goal.returns-in-LessThanOrEqual
unfolding compare_conditional of_bits div neg
returns-in-LessThanOrEqual c x p q =
    let a = c.args.a in
    rw c.in-LessThanOrEqual.is (meets_at_most x q a)
