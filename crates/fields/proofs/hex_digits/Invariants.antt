-- `fields::hex_digits` meets its contract. The loop's invariant: reading on from here gives what reading from the start gives, and
-- the value has the digits read so far. Assumes nothing.
use Prim.Native.Nat.{◌-◌, ◌<◌}
use mathlib.Core.Path.{◌≡◌}
use Rattle.grammar.specs.Numbers.{hex_p, sixteens}
use Rattle.fields.proofs.hex_digits.Given as goal

abbrev pub invariant-loop : goal.invariant-loop
invariant-loop l = (hex_p (l.number - l.counter) l.value l.s l.next ≡ hex_p l.number 0 l.s l.at) × (l.value < sixteens l.counter)
