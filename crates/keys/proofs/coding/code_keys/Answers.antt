-- `keys::coding::code_keys` meets its contract: codes that reach each key are the names. Assumes nothing.
use native.Mathlib.Omega.{arith}
use Rattle.keys.proofs.Along.{codes_named}
use Rattle.keys.proofs.coding.code_keys.Goals as goal

pub returns-then-covered : goal.returns-then-covered
returns-then-covered c ks v e =
    codes_named v (omega (arith, e, c.requires)) (c.tabled_codes-tabled.ensures ks v)
    (rw e (c.covered.ensures c.if-covered.true))

pub returns-then-covered-2 : goal.returns-then-covered-2
returns-then-covered-2 c ks v e =
    codes_named v (omega (arith, e, c.requires)) (c.sorted_codes-sorted.ensures ks v)
    (rw e (c.covered-2.ensures c.if-covered-2.true))
