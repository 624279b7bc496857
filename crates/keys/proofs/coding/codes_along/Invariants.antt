-- `keys::coding::codes_along` meets its contract. The loop's invariant: the codes given so far are codes of the keys up to the last one. A
-- turn gives one code more. Assumes nothing.
use mathlib.Core.List.{List}
use Rattle.model.specs.Options.{Key}
use Rattle.keys.specs.Held.{HeldIn}
use Rattle.keys.proofs.Along.{Along}
use Rattle.keys.proofs.coding.codes_along.Given as goal

abbrev pub invariant-loop-id : goal.invariant-loop-id
invariant-loop-id l = (ks : List Key) → HeldIn l.keys ks → Along l.keys.pool.now ks l.codes l.prior l.code
