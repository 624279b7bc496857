-- The invariant of a loop that stores a byte for each region: the bytes so far are as a function says. Where it stores in place, the bytes
-- ahead of it are as they were. Assumes nothing.
use Prim.Native.Nat.{ℕ, ◌+◌, ◌≤◌, ◌<◌}
use native.Mathlib.Nat.{le_refl, eq-or-lt_of_le}
use native.Mathlib.Omega.{arith}
use mathlib.Core.Path.{◌≡◌, ◌∙◌, refl, ap, sym}
use mathlib.Core.Logic.{◌⊎◌, inl, inr}
use mathlib.Core.List.{List}
use lib.ListN.{length, get_or, set, length-set}
use lib.Seq.{get_or-set_same, get_or-set_other}

-- the first i of n bytes are stored over a list
pub record Stored (f : ℕ → ℕ) (n : ℕ) (over xs : List ℕ) (i : ℕ) : Type 0 where
  pub within : i ≤ n
  pub long : length xs ≡ length over
  pub each : (j : ℕ) → j < i → get_or xs j 0 ≡ f j

pub stored_none : (f : ℕ → ℕ) (n : ℕ) (xs : List ℕ) → Stored f n xs xs 0
stored_none f n xs = record { within = omega arith; long = refl; each = λ j l. omega (arith, l) }

pub stored_more : (f : ℕ → ℕ) (n : ℕ) (over xs : List ℕ) (i b : ℕ) → i < n → n ≤ length over → b ≡ f i → Stored f n over xs i
    → Stored f n over (set xs i b) (i + 1)
stored_more f n over xs i b h room e s =
    record { within = omega arith; long = length-set xs i b ∙ s.long; each = λ j l. let k : j ≤ i = omega arith in told j (eq-or-lt_of_le k) }
  where
    told : (j : ℕ) → (j ≡ i) ⊎ (j < i) → get_or (set xs i b) j 0 ≡ f j
    told j (inl p) = ap (λ k. get_or (set xs i b) k 0) p ∙ get_or-set_same xs i b 0 (omega (arith, s.long)) ∙ e ∙ ap f (sym p)
    told j (inr q) = get_or-set_other xs i j b 0 (λ p. omega (arith, p)) ∙ s.each j q

-- in place: the bytes from i on are as they were
pub record Replaced (f : ℕ → ℕ) (over xs : List ℕ) (i : ℕ) : Type 0 where
  pub done : Stored f (length over) over xs i
  pub left : (j : ℕ) → i ≤ j → get_or xs j 0 ≡ get_or over j 0

pub replaced_none : (f : ℕ → ℕ) (xs : List ℕ) → Replaced f xs xs 0
replaced_none f xs = record { done = stored_none f (length xs) xs; left = λ j h. refl }

pub replaced_more : (f : ℕ → ℕ) (over xs : List ℕ) (i b : ℕ) → i < length over → b ≡ f i → Replaced f over xs i
    → Replaced f over (set xs i b) (i + 1)
replaced_more f over xs i b h e r =
    record {
      done = stored_more f (length over) over xs i b h (le_refl (length over)) e r.done;
      left = λ j l. get_or-set_other xs i j b 0 (λ p. omega (arith, p)) ∙ r.left j (omega arith);
    }
