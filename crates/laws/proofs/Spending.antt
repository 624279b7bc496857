-- What a list of charges comes to under a limit: accepted exactly where there are none or the limit is at least what they come to.
-- Assumes nothing.
use Rattle.charging.specs.declared.ChargeError.{ChargeError}
use Rattle.std.specs.Prelude.{Ok, Err}
use Prim.Native.Nat.{ℕ, zero, suc, ◌+◌, ◌≤◌, ◌<◌, ◌^◌}
use native.Mathlib.Omega.{arith}
use native.Mathlib.Decide.{dec_le}
use mathlib.Core.Path.{◌≡◌, refl, sym, ap, ◌∙◌}
use mathlib.Core.Logic.{◌⊎◌, inl, inr}
use mathlib.Core.Bool.{Bool, true, false, cond}
use mathlib.Core.List.{List, [], ◌∷◌, ◌++◌}
use lib.Dec.{leb, ltb}
use lib.ListN.{replicate}
use borrow.Author.Tests.{lt-ltb, le-leb, lt-leb}
use Rattle.charging.specs.declared.Counter.{Counter}
use Rattle.charging.specs.Charge.{Charged}
use Rattle.charging.specs.Charge.{Charge, one, size, counter, stored, charge, and_then, spend, total}

-- ---- sums

pub total_append : (a b : List Charge) → total (a ++ b) ≡ total a + total b
unfolding total
total_append [] b = omega arith
total_append (e ∷ a) b = omega (arith, total_append a b)

pub total_ones : (n : ℕ) → total (replicate n one) ≡ n
unfolding total size
total_ones zero = refl
total_ones (suc n) = omega (arith, total_ones n)

-- ---- one charge

charge_within : (limit c : ℕ) (e : Charge) → c + size e < 2 ^ 64 → c + size e ≤ limit
    → charge limit c e ≡ Ok (counter (c + size e))
unfolding charge
charge_within limit c e fits low = simp (lt-ltb, le-leb)

charge_over : (limit c : ℕ) (e : Charge) → c + size e < 2 ^ 64 → limit < c + size e
    → charge limit c e ≡ Err (ChargeError.LimitExceeded (counter (stored c e)) (c + size e))
unfolding charge
charge_over limit c e fits high = simp (lt-ltb, lt-leb)

-- ---- charges one after the other

-- charges that stay below 2^64 and within the limit are accepted
pub spend_within : (limit c : ℕ) (es : List Charge) → c + total es < 2 ^ 64 → c + total es ≤ limit
    → spend limit c es ≡ Ok (counter (c + total es))
unfolding spend total and_then
spend_within limit c [] fits low = ap (λ (n : ℕ). Ok (counter n)) (omega arith)
spend_within limit c (e ∷ es) fits low =
    rw (charge_within limit c e (omega arith) (omega arith))
    (spend_within limit (c + size e) es (omega arith) (omega arith) ∙ ap (λ (n : ℕ). Ok (counter n)) (omega arith))

pub record Exceeds (limit c : ℕ) (es : List Charge) : Type 0 where
  pub left : Counter
  pub actual : ℕ
  pub is : spend limit c es ≡ Err (ChargeError.LimitExceeded left actual)

-- charges that stay below 2^64 and pass the limit are refused with 7
pub spend_over : (limit c : ℕ) (es : List Charge) → c + total es < 2 ^ 64 → limit < c + total es → 0 < total es → Exceeds limit c es
unfolding spend total and_then
spend_over limit c [] fits high some = absurd (omega arith)
spend_over limit c (e ∷ es) fits high some =
    elim (dec_le (c + size e) limit) [
      | yes low ↦
          let later = spend_over limit (c + size e) es (omega arith) (omega arith) (omega arith) in
          record { left = later.left; actual = later.actual; is = rw (charge_within limit c e (omega arith) low) later.is }
      | no high' ↦ record { left = counter (stored c e); actual = c + size e; is = rw (charge_over limit c e (omega arith) (omega arith)) }
    ]

-- every charge is at least 1
abbrev pub Charging : List Charge → Type 0
Charging [] = Unit
Charging (e ∷ es) = (1 ≤ size e) × Charging es

pub charging_append : (a b : List Charge) → Charging a → Charging b → Charging (a ++ b)
charging_append [] b p q = q
charging_append (e ∷ a) b p q = (p.0, charging_append a b p.1 q)

pub charging_ones : (n : ℕ) → Charging (replicate n one)
unfolding size
charging_ones zero = tt
charging_ones (suc n) = (omega arith, charging_ones n)

charging_none : (es : List Charge) → Charging es → total es ≡ 0 → es ≡ []
unfolding total
charging_none [] p z = refl
charging_none (e ∷ es) p z = absurd (omega arith)

-- accepted, where there is no charge or the limit is at least what is reached
pub spend_enough : (limit c : ℕ) (es : List Charge) → Charging es → c + total es < 2 ^ 64 → (c + total es ≡ c) ⊎ (c + total es ≤ limit)
    → spend limit c es ≡ Ok (counter (c + total es))
unfolding spend total
spend_enough limit c es p fits (inl none) = rw (charging_none es p (omega arith)) (ap (λ (n : ℕ). Ok (counter n)) (omega arith))
spend_enough limit c es p fits (inr low) = spend_within limit c es fits low

-- ---- what an accepted list of charges leaves

charge_count : (limit c : ℕ) (e : Charge) (k : Counter) → charge limit c e ≡ Ok k → k.count ≡ c + size e
unfolding charge
charge_count limit c e k h = go (ltb (c + size e) (2 ^ 64)) (leb (c + size e) limit) h
  where
    go : (fits low : Bool)
        → cond fits (cond low (Ok (counter (c + size e))) (Err (ChargeError.LimitExceeded (counter (stored c e)) (c + size e))))
        (Err (ChargeError.CoordinateOverflow (counter c))) ≡ Ok k
        → k.count ≡ c + size e
    go true true h = let same : counter (c + size e) ≡ k = cc in sym (ap (λ (x : Counter). x.count) same)
    go true false h = absurd (let no : ◌≡◌ {A = ℕ} 0 1 = cc in omega arith)
    go false low h = absurd (let no : ◌≡◌ {A = ℕ} 0 1 = cc in omega arith)

-- the counter after accepted charges is raised by all of them
pub spend_count : (limit c : ℕ) (es : List Charge) (k : Counter) → spend limit c es ≡ Ok k → k.count ≡ c + total es
unfolding spend total and_then
spend_count limit c [] k h = let same : counter c ≡ k = cc in sym (ap (λ (x : Counter). x.count) same) ∙ omega arith
spend_count limit c (e ∷ es) k h = go (charge limit c e) refl h (λ d is. spend_count limit d es k is)
  where
    go : (r : Charged) → charge limit c e ≡ r → and_then r (λ d. spend limit d es) ≡ Ok k
        → ((d : ℕ) → spend limit d es ≡ Ok k → k.count ≡ d + total es) → k.count ≡ c + (size e + total es)
    go (Ok d) is h later = later d.count h ∙ omega (arith, charge_count limit c e d is)
    go (Err (ChargeError.LimitExceeded d a)) is h later = absurd (let no : ◌≡◌ {A = ℕ} 0 1 = cc in omega arith)
    go (Err (ChargeError.CoordinateOverflow d)) is h later = absurd (let no : ◌≡◌ {A = ℕ} 0 1 = cc in omega arith)
