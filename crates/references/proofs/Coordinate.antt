-- An accepted axis is at most its maximum, so that a column fits u16. Assumes nothing.
use Rattle.std.specs.Prelude.{Some, None}
use Prim.Native.Nat.{ℕ, ◌+◌, ◌-◌, ◌<◌, ◌≤◌, ◌^◌}
use mathlib.Core.Path.{◌≡◌, refl}
use mathlib.Core.Bool.{Bool, true, false, cond, ◌&&◌}
use native.Mathlib.Omega.{arith}
use lib.Dec.{leb}
use borrow.Author.Tests.{leb-true}
use Rattle.model.specs.Sheet.{max_col}
use Rattle.model.specs.References.{offset_axis, axis}

-- an accepted axis is at most the maximum
offset_within : (t r o m v : ℕ) → offset_axis t r o m ≡ Some v → v ≤ m
unfolding offset_axis
offset_within t r o m v h = go (leb o (t + r)) (leb (t + r - o) m) (leb-true (t + r - o) m) h
  where
    go : (a b : Bool) → (b ≡ true → t + r - o ≤ m) → cond (a && b) (Some (t + r - o)) None ≡ Some v → v ≤ m
    go true true k e = let n : t + r - o ≡ v = cc in let l : t + r - o ≤ m = k refl in omega arith
    go true false k e = absurd (let z : ◌≡◌ {A = ℕ} 0 1 = cc in omega arith)
    go false b k e = absurd (let z : ◌≡◌ {A = ℕ} 0 1 = cc in omega arith)

-- a column fits u16, checked or not
pub axis_small : (absolute : Bool) (t r o : ℕ) → r < 2 ^ 16 → (v : ℕ) → axis absolute t r o max_col ≡ Some v → v < 2 ^ 16
unfolding axis
axis_small true t r o h v e = let n : r ≡ v = cc in omega arith
axis_small false t r o h v e = let l : v ≤ max_col = offset_within t r o max_col v e in omega arith
