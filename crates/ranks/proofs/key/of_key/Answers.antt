-- `ranks::key::of_key` meets its contract: each arm is a case of `of_key`. Assumes nothing.
use Rattle.std.proofs.Common.{le-ltb, lt-ltb}
use Rattle.ranks.specs.Keys.{of_key}
use Rattle.ranks.proofs.key.of_key.Goals as goal

pub returns-then-key-lt9223372036854775808 : goal.returns-then-key-lt9223372036854775808
unfolding of_key
returns-then-key-lt9223372036854775808 c = rw (lt-ltb _ _ c.if-key-lt9223372036854775808.true) c.float_of_bits.ensures

pub returns : goal.returns
unfolding of_key
returns c = rw (le-ltb _ _ c.if-key-lt9223372036854775808.false) c.float_of_bits-2.ensures
