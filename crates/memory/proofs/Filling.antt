-- A list that is filled with one value from the front, one store a turn: begun, one more, as long as it was, and done.
-- Assumes nothing.
use Prim.Native.Nat.{ℕ, zero, suc, ◌+◌, ◌≤◌, ◌<◌}
use mathlib.Core.Path.{◌≡◌, refl, ap, ◌∙◌}
use mathlib.Core.List.{List, [], ◌∷◌, ◌++◌, append-nil}
use native.Mathlib.Numerals.{add-one}
use native.Mathlib.Omega.{arith}
use lib.ListN.{length, set, drop, replicate, length-append, length-drop, length-replicate}
use lib.Seq.{drop-length}

-- l is l₀ with z in its first i places
pub record Filled {A : Type 0} (z : A) (l₀ l : List A) (i : ℕ) : Type 0 where
  pub within : i ≤ length l₀
  pub filled : l ≡ replicate i z ++ drop i l₀

module _ {A : Type 0} {z : A} where
  pub filled_begun : (l : List A) → Filled z l l 0
  filled_begun l = record { within = omega arith; filled = refl }

  pub filled_long : {l₀ l : List A} {i : ℕ} → Filled z l₀ l i → length l ≡ length l₀
  filled_long h = rw h.filled (simp (length-append, length-replicate, length-drop) (omega arith))

  store_filled : (i : ℕ) (l : List A) → i < length l → set (replicate i z ++ drop i l) i z ≡ replicate (suc i) z ++ drop (suc i) l
  store_filled i [] h = absurd (omega arith)
  store_filled zero (x ∷ l) h = refl
  store_filled (suc i) (x ∷ l) h = ap (λ t. z ∷ t) (store_filled i l (omega arith))

  pub filled_more : {l₀ l : List A} {i : ℕ} → Filled z l₀ l i → i < length l → Filled z l₀ (set l i z) (i + 1)
  filled_more {l₀} {l} {i} f h =
      let below : i < length l₀ = omega (arith, filled_long f) in
      record { within = omega arith; filled = rw (f.filled, add-one) (store_filled i l₀ below) }

  pub filled_done : {l₀ l : List A} {i : ℕ} → Filled z l₀ l i → length l ≤ i → l ≡ replicate (length l₀) z
  filled_done {l₀} {l} {i} f h =
      let all : i ≡ length l₀ = omega (arith, filled_long f, f.within) in
      f.filled ∙ rw (all, drop-length, append-nil)
