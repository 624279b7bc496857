-- `keys::table::place` meets its contract. Assumes nothing.
use native.Mathlib.Omega.{arith}
use Rattle.keys.specs.Places.{place_of}
use Rattle.keys.proofs.table.place.Goals as goal

pub returns : goal.returns
unfolding place_of
returns c = record {
  value = rw (← c.mix-mixed.ensures);
  upper_bound = omega arith;
}
