-- `each` of the model is true exactly if the test holds at every number of its stretch. Assumes nothing.
use Prim.Native.Nat.{ℕ, zero, suc, ◌+◌, ◌-◌, ◌≤◌, ◌<◌}
use native.Mathlib.Nat.{eq-or-lt_of_le}
use native.Mathlib.Omega.{arith}
use mathlib.Core.Path.{◌≡◌, refl, sym, subst, ◌∙◌}
use mathlib.Core.Logic.{◌↔◌, ⊎_elim}
use mathlib.Core.Bool.{Bool, true, false, cond, false≢true}
use Rattle.model.specs.Rule.{each}

-- the test is `value` at each number from i on and below j
abbrev pub Throughout : (ℕ → Bool) → Bool → ℕ → ℕ → Type 0
Throughout test value i j = (k : ℕ) → i ≤ k → k < j → test k ≡ value

-- what holds at i, and from i + 1 on, holds from i on
pub throughout_more : (test : ℕ → Bool) (value : Bool) (i j : ℕ) → test i ≡ value → Throughout test value (suc i) j
    → Throughout test value i j
throughout_more test value i j here later k a b =
    ⊎_elim (λ e. subst (λ (m : ℕ). test m ≡ value) e here) (λ above. later k above b) (eq-or-lt_of_le a)

-- `each` is true exactly if the test holds at each of the n numbers from i on
pub each_true : (test : ℕ → Bool) (i n : ℕ) → (each test i n ≡ true) ↔ Throughout test true i (i + n)
unfolding each
each_true test i zero = (λ e k a b. absurd (omega arith), λ h. refl)
each_true test i (suc n) = go (test i) refl (each_true test (suc i) n)
  where
    go : (b : Bool) → test i ≡ b → (each test (suc i) n ≡ true) ↔ Throughout test true (suc i) (suc i + n)
        → (cond b (each test (suc i) n) false ≡ true) ↔ Throughout test true i (i + suc n)
    go true e later = (
      λ t. throughout_more test true i (i + suc n) e (λ k a b. later.0 t k a (omega arith)),
      λ h. later.1 (λ k a b. h k (omega arith) (omega arith)),
    )
    go false e later = (λ t. absurd (false≢true t), λ h. sym e ∙ h i (omega arith) (omega arith))

-- the same for the numbers from i through j
pub each_through : (test : ℕ → Bool) (i j : ℕ) → i ≤ j
    → (each test i (suc (j - i)) ≡ true) ↔ ((k : ℕ) → i ≤ k → k ≤ j → test k ≡ true)
each_through test i j h =
    let law = each_true test i (suc (j - i)) in
    (λ e k a b. law.0 e k a (omega arith), λ f. law.1 (λ k a b. f k a (omega arith)))
