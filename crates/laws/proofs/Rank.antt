-- How many of n values a rank selects: by percent the least count that is enough, by count the rank itself, held to 1 and n
-- (document 01, 'Rules'). Assumes nothing.
use Prim.Native.Nat.{ℕ, ◌*◌, ◌≤◌, ◌<◌, min}
use native.Mathlib.Nat.{mul-le-mul_left, min-le_right}
use native.Mathlib.Omega.{arith}
use mathlib.Core.Path.{◌≡◌}
use mathlib.Core.Bool.{Bool, true, false}
use Rattle.model.specs.Values.{selected}

-- k is at most n, and the least number from 1 on that is at least min rank 100 percent of n
pub record LeastCount (n rank k : ℕ) : Type 0 where
  pub some : 1 ≤ k
  pub most : k ≤ n
  pub enough : n * min rank 100 ≤ 100 * k
  pub least : (j : ℕ) → 1 ≤ j → n * min rank 100 ≤ 100 * j → k ≤ j

-- by percent, the least count that is enough
pub selected_percent : (rank n : ℕ) → 1 ≤ n → LeastCount n rank (selected true rank n)
unfolding selected
selected_percent rank n h =
    let share : n * min rank 100 ≤ n * 100 = mul-le-mul_left n (min-le_right rank 100) in
    record { some = omega arith; most = omega arith; enough = omega arith; least = omega arith }

-- by count, as many as the rank says
pub selected_count : (rank n : ℕ) → 1 ≤ rank → rank ≤ n → selected false rank n ≡ rank
unfolding selected
selected_count rank n a b = omega arith

-- a count past the values selects them all
pub selected_all : (rank n : ℕ) → n < rank → selected false rank n ≡ n
unfolding selected
selected_all rank n h = omega arith

-- a count of 0 selects one
pub selected_zero : (n : ℕ) → 1 ≤ n → selected false 0 n ≡ 1
unfolding selected
selected_zero n h = omega arith

-- of no values none is selected
pub selected_none : (percent : Bool) (rank : ℕ) → selected percent rank 0 ≡ 0
unfolding selected
selected_none percent rank = omega arith
