-- How many regions are not stopped, for a loop that counts them one by one: of none, of one more, of the front, and where no region is
-- stopped. Assumes nothing.
use Prim.Native.Nat.{ℕ, zero, suc, ◌+◌, ◌≤◌}
use mathlib.Core.Path.{◌≡◌, refl, ap, ◌∙◌}
use mathlib.Core.Bool.{Bool, true, false, cond}
use mathlib.Core.List.{List}
use native.Mathlib.Nat.{add-zero, zero-add}
use native.Mathlib.Omega.{arith}
use mir.Val.{bool_byte}
use lib.Dec.{eqb}
use lib.ListN.{length, get_or, take}
use lib.Seq.{get_or-take, length-take-le}
use Rattle.hits.specs.Hits.{live_from}

abbrev unstopped : List ℕ → ℕ → Bool
unstopped flags i = eqb (get_or flags i 0) 0

module _ (flags : List ℕ) where
  pub live_none : (i : ℕ) → live_from flags i 0 ≡ 0
  unfolding live_from
  live_none i = refl

  -- a front of regions and the rest
  pub live_split : (i m n : ℕ) → live_from flags i (m + n) ≡ live_from flags i m + live_from flags (i + m) n
  unfolding live_from
  live_split i zero n = rw (zero-add n, zero-add, add-zero i)
  live_split i (suc m) n =
      let e : suc m + n ≡ suc (m + n) = omega arith in
      let f : i + suc m ≡ suc i + m = omega arith in
      rw (e, f, live_split (suc i) m n) (go (unstopped flags i) _ _)
    where
      go : (live : Bool) (a b : ℕ) → cond live (suc (a + b)) (a + b) ≡ cond live (suc a) a + b
      go true a b = omega arith
      go false a b = refl

  live_one : (i : ℕ) → live_from flags i 1 ≡ bool_byte (unstopped flags i)
  unfolding live_from
  live_one i = go (unstopped flags i)
    where
      go : (live : Bool) → cond live 1 0 ≡ bool_byte live
      go true = refl
      go false = refl

  pub live_more : (n : ℕ) → live_from flags 0 (n + 1) ≡ live_from flags 0 n + bool_byte (eqb (get_or flags n 0) 0)
  live_more n = live_split 0 n 1 ∙ rw (zero-add n, live_one n)

  pub live_few : (i n : ℕ) → live_from flags i n ≤ n
  unfolding live_from
  live_few i zero = omega arith
  live_few i (suc n) = go (unstopped flags i) (live_few (suc i) n)
    where
      go : (live : Bool) {a : ℕ} → a ≤ n → cond live (suc a) a ≤ suc n
      go true h = omega arith
      go false h = omega arith

  -- the flags of later regions have no part in it
  live_cut : (m i n : ℕ) → i + n ≤ m → live_from (take m flags) i n ≡ live_from flags i n
  unfolding live_from
  live_cut m i zero h = refl
  live_cut m i (suc n) h =
      let here : suc i ≤ m = omega arith in
      rw (get_or-take m flags i 0 here, live_cut m (suc i) n (omega arith))

  pub live_front : (m : ℕ) → m ≤ length flags → live_from (take m flags) 0 (length (take m flags)) ≡ live_from flags 0 m
  live_front m h = rw (length-take-le m flags h) (live_cut m 0 m (omega arith))

  module _ (all : (i : ℕ) → get_or flags i 0 ≡ 0) where
    zeros_from : (i n : ℕ) → live_from flags i n ≡ n
    unfolding live_from
    zeros_from i zero = refl
    zeros_from i (suc n) = rw (all i) (ap suc (zeros_from (suc i) n))

    pub live_zeros : (n : ℕ) → live_from flags 0 n ≡ n
    live_zeros n = zeros_from 0 n
