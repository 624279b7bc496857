-- Rounding is to the nearest whole number, and halves go away from zero. Assumes nothing.
use Prim.Native.Nat.{ℕ, ◌+◌, ◌-◌, ◌*◌, ◌/◌, ◌^◌, ◌≤◌, ◌<◌, min}
use native.Mathlib.Omega.{arith}
use native.Mathlib.Nat.{mul_comm, mul_assoc, mul-pos, div-lt_iff_lt-mul, div-mul-le_self, lt-mul-div-succ}
use mathlib.Core.Path.{◌≡◌}
use mathlib.Core.Bool.{false}
use lib.Dec.{lit<}
use lib.IntN.{ℤ}
use lib.Ieee.{fin, up, down}
use lib.Ieee.Fits.{down_pos}
use Rattle.model.specs.Ratio.{rounded}

-- a quotient that is cut is at most what it is cut from, and one more is above it
quotient_cut : (n d : ℕ) → 0 < d → (2 * (n / (2 * d)) * d ≤ n) × (n < 2 * (n / (2 * d) + 1) * d)
quotient_cut n d pos =
    let twice : (k : ℕ) → 2 * k * d ≡ k * (2 * d) = λ k. rw (mul_comm 2 k, mul_assoc k 2 d) in
    (rw twice (div-mul-le_self n (2 * d)), rw (twice, mul_comm _ (2 * d)) (lt-mul-div-succ n (omega arith)))

pub rounded_to_nearest : (m : ℕ) (e : ℤ) → 2 * (m * up e) + down e < 2 * 2 ^ 32 * down e
    → (2 * rounded (fin false m e) * down e ≤ 2 * (m * up e) + down e)
    × (2 * (m * up e) + down e < 2 * (rounded (fin false m e) + 1) * down e)
unfolding rounded
rounded_to_nearest m e h =
    let n = 2 * (m * up e) + down e in
    let low : n / (2 * down e) < 2 ^ 32 = (div-lt_iff_lt-mul (mul-pos (lit< tt) (down_pos e))).1 (omega arith) in
    let same : min (n / (2 * down e)) (2 ^ 32 - 1) ≡ n / (2 * down e) = omega arith in
    rw same (quotient_cut n (down e) (down_pos e))
