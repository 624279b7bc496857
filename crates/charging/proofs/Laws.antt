-- The three outcomes of a charge, each from the order of the raised count, 2^64 and the limit; and so many evaluations at once.
-- Assumes nothing.
use Rattle.charging.specs.declared.ChargeError.{ChargeError}
use Rattle.std.specs.Prelude.{Ok, Err}
use Prim.Native.Nat.{ℕ, zero, suc, ◌+◌, ◌≤◌, ◌<◌, ◌^◌}
use native.Mathlib.Omega.{arith}
use native.Mathlib.Decide.{dec_le, dec_lt}
use mathlib.Core.Path.{◌≡◌, ap, ◌∙◌}
use lib.ListN.{replicate}
use borrow.Author.Tests.{lt-ltb, le-ltb, le-leb, lt-leb}
use Rattle.charging.specs.Charge.{Charged}
use Rattle.charging.specs.Charge.{Charge, one, size, counter, stored, charge, and_then, spend}

module _ (limit count : ℕ) (e : Charge) where
  pub charge_overflows : 2 ^ 64 ≤ count + size e → charge limit count e ≡ Err (ChargeError.CoordinateOverflow (counter count))
  unfolding charge
  charge_overflows past = simp (le-ltb _ _ past)

  pub charge_exceeds : count + size e < 2 ^ 64 → limit < count + size e
      → charge limit count e ≡ Err (ChargeError.LimitExceeded (counter (stored count e)) (count + size e))
  unfolding charge
  charge_exceeds fits over = simp (lt-ltb _ _ fits, lt-leb _ _ over)

  pub charge_within : count + size e < 2 ^ 64 → count + size e ≤ limit → charge limit count e ≡ Ok (counter (count + size e))
  unfolding charge
  charge_within fits under = simp (lt-ltb _ _ fits, le-leb _ _ under)

-- ---- evaluations one after the other

abbrev within : ℕ → Charged
within count = Ok (counter count)

-- up to the limit they are accepted
pub ones_within : (limit n count : ℕ) → limit < 2 ^ 64 → count + n ≤ limit → spend limit count (replicate n one) ≡ within (count + n)
unfolding spend and_then size
ones_within limit zero count fits under = ap within (omega arith)
ones_within limit (suc n) count fits under =
    rw (charge_within limit count one (omega arith) (omega arith)) (ones_within limit n (count + 1) fits (omega arith) ∙ ap within (omega arith))

-- from the limit on, the first is not
pub ones_refused : (limit n count : ℕ) → 0 < n → limit ≤ count → spend limit count (replicate n one) ≡ charge limit count one
unfolding spend and_then size
ones_refused limit zero count some over = absurd (omega arith)
ones_refused limit (suc n) count some over =
    elim (dec_lt (count + 1) (2 ^ 64)) [
      | yes fits ↦ rw (charge_exceeds limit count one (omega arith) (omega arith))
      | no past ↦ rw (charge_overflows limit count one (omega arith))
    ]

-- those past the limit end as one charge at the limit does
pub ones_past : (limit n count : ℕ) → limit < 2 ^ 64 → count ≤ limit → limit < count + n
    → spend limit count (replicate n one) ≡ charge limit limit one
unfolding spend and_then size
ones_past limit zero count fits low past = absurd (omega arith)
ones_past limit (suc n) count fits low past =
    elim (dec_le (count + 1) limit) [
      | yes under ↦ rw (charge_within limit count one (omega arith) under) (ones_past limit n (count + 1) fits under (omega arith))
      | no over ↦
          let same : count ≡ limit = omega arith in
          ones_refused limit (suc n) count (omega arith) (omega arith) ∙ ap (λ (k : ℕ). charge limit k one) same
    ]
