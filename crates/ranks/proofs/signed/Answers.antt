-- `ranks::signed` meets its contract: each case is a law of proofs/Exact.antt. Assumes nothing.
use Rattle.std.proofs.Common.{arith}
use denote.Floats.{passes}
use lib.Ieee.{of_bits, neg}
use Rattle.ranks.proofs.Finite.{all_finite_lem}
use Rattle.ranks.proofs.Exact.{exact_zero, exact_minus_zero, exact_other}
use Rattle.ranks.proofs.signed.Goals as goal

pub returns-then-k-count_ahead_of_zero : goal.returns-then-k-count_ahead_of_zero
unfolding of_bits neg
returns-then-k-count_ahead_of_zero c =
    let p = c.requires in
    exact_minus_zero _ _ _ c.type_inv.values (all_finite_lem _ p.values_value) p.k_in_bounds p.t_value c.if-t.true
    (omega (arith, c.count_ahead_of_zero.ensures, c.if-k-count_ahead_of_zero.true))

pub returns-then-t : goal.returns-then-t
unfolding of_bits
returns-then-t c =
    let p = c.requires in
    exact_zero _ _ _ c.type_inv.values (all_finite_lem _ p.values_value) p.k_in_bounds p.t_value c.if-t.true
    (omega (arith, c.count_ahead_of_zero.ensures, c.if-k-count_ahead_of_zero.false))

pub returns : goal.returns
unfolding of_bits
returns c =
    let p = c.requires in
    exact_other _ _ _ c.type_inv.values (all_finite_lem _ p.values_value) p.k_in_bounds p.t_value c.if-t.false
    (passes _ c.well_formed.1.1.0.1)
