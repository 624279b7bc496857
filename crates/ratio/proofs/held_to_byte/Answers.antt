-- `ratio::held_to_byte` meets its contract, by the sign and the size of q. Assumes nothing.
use Rattle.std.proofs.Common.{rules, ◌≡◌, ap, ◌∙◌, Bool, true, false, refl, arith}
use Rattle.std.specs.Int.{int_max, int_min}
use borrow.Author.Tests.{le-ltb, ltb-true, ltb-false}
use Prim.Native.Nat.{◌<◌, ◌≤◌, min}
use lib.Dec.{ltb}
use lib.IntN.{ℤ, pos, negsuc, nat_abs}
use mathlib.Core.Bool.{cond}
use mir.Syntax.{w64}
use mir.Val.{SFits}
use mir.ValLaws.{to_z-of_z}
use Rattle.model.specs.Ratio.{held_to_byte}
use Rattle.ratio.proofs.held_to_byte.Goals as goal

held : (z : ℤ) → nat_abs (int_max (pos 0) (int_min z (pos 255))) ≡ held_to_byte z
unfolding held_to_byte
held (pos n) = inside (ltb 255 n) refl
  where
    inside : (b : Bool) → ltb 255 n ≡ b → nat_abs (int_max (pos 0) (cond b (pos 255) (pos n))) ≡ min n 255
    inside true e = let l : 255 < n = ltb-true 255 n e in omega arith
    inside false e = let l : n ≤ 255 = ltb-false 255 n e in rw (le-ltb n 0 (omega arith)) (omega arith)
held (negsuc n) = refl

pub returns : goal.returns
returns c =
    let fits : SFits w64 c.clamp.result = search rules in
    let clamped = rw (to_z-of_z w64 c.args.q c.ranges.q) at c.clamp.ensures.value in
    ap nat_abs (to_z-of_z w64 c.clamp.result fits ∙ clamped) ∙ held c.args.q
