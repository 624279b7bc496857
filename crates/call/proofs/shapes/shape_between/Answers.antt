-- `call::shapes::shape_between` meets its contract: the shape is the same for every value, and its number is at most 2. Assumes nothing.
use Prim.Native.Nat.{◌≤◌}
use native.Mathlib.Omega.{arith}
use mathlib.Core.Path.{ap, ◌∙◌}
use Rattle.model.specs.declared.Shape.{Shape}
use Rattle.model.specs.Ratio.{shape_number}
use Rattle.call.proofs.shapes.shape_between.Goals as goal

number_small : (s : Shape) → shape_number s ≤ 2
unfolding shape_number
number_small Shape.Plain = omega arith
number_small Shape.Flat = omega arith
number_small Shape.TooWide = omega arith

pub returns : goal.returns
returns c =
    record {
      shape = λ x. c.shape_number.ensures ∙ ap shape_number (c.shape_of.ensures x);
      small = omega (arith, c.shape_number.ensures, number_small c.shape_of.result);
    }
