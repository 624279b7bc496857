-- Charging: what one charge does to the counter, and a list of charges under a limit (document 01, 'Charging').
-- Assumes nothing.
use Rattle.std.specs.Prelude.{Result, Ok, Err, ℕ, ◌+◌, ◌^◌, cond, List, [], ◌∷◌, leb, ltb}
use Rattle.charging.specs.declared.Counter.{Counter}
use Rattle.charging.specs.declared.ChargeError.{ChargeError}
use Rattle.charging.specs.declared.ChargeError.TheVariants.{LimitExceeded, CoordinateOverflow}

-- the counter that an accepted charge leaves, or what a refused one says
abbrev pub Charged : Type 0
Charged = Result Counter ChargeError

-- one evaluation, or the whole area of a range at once
pub data Charge : Type 0 where
  one : Charge
  area : ℕ → Charge

unfoldable pub size : Charge → ℕ
size one = 1
size (area n) = n

abbrev pub counter : ℕ → Counter
counter n = record { count = n }

-- what a charge over the limit leaves in the counter: one evaluation is stored and then compared, an area is stored only if accepted
unfoldable pub stored : ℕ → Charge → ℕ
stored count one = count + 1
stored count (area n) = count

-- one charge: past 2^64 - 1 it overflows, whatever the limit; else the raised count is compared with the limit
unfoldable pub charge : ℕ → ℕ → Charge → Charged
charge limit count e =
    cond (ltb (count + size e) (2 ^ 64))
    (cond (leb (count + size e) limit) (Ok (counter (count + size e))) (Err (LimitExceeded (counter (stored count e)) (count + size e))))
    (Err (CoordinateOverflow (counter count)))

-- the next step, from the count that an accepted charge leaves; the first charge that is not accepted ends it
unfoldable pub and_then : Charged → (ℕ → Charged) → Charged
and_then (Ok c) next = next c.count
and_then (Err e) next = Err e

-- charges made one after the other
unfoldable pub spend : ℕ → ℕ → List Charge → Charged
spend limit count [] = Ok (counter count)
spend limit count (e ∷ es) = and_then (charge limit count e) (λ c. spend limit c es)

-- what the charges come to without a limit, in unbounded whole numbers
unfoldable pub total : List Charge → ℕ
total [] = 0
total (e ∷ es) = size e + total es
