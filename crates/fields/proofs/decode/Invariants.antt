-- `fields::decode` meets its contract. The loop's invariant: the bytes of the pairs so far are stored. Assumes nothing.
use mathlib.Core.Path.{◌≡◌}
use lib.Seq.{sets}
use Rattle.fields.specs.Field.{pair_bytes}
use Rattle.fields.proofs.decode.Given as goal

abbrev pub invariant-loop-i : goal.invariant-loop-i
invariant-loop-i l = l.pool ≡ sets l.initial.pool l.used (pair_bytes l.i l.s l.at)
