-- Charges as computed examples: within the limit, one past it, an area past it, and past 2^64 - 1. Assumes nothing.
use Rattle.charging.specs.declared.ChargeError.{ChargeError}
use Rattle.std.specs.Prelude.{Ok, Err}
use Prim.Native.Nat.{ℕ, ◌-◌, ◌^◌}
use mathlib.Core.Path.{◌≡◌, refl}
use mathlib.Core.List.{[], ◌∷◌}
use Rattle.charging.specs.Charge.{one, area, size, counter, stored, charge, and_then, spend}

-- the counter's end
abbrev top : ℕ
top = 2 ^ 64 - 1

-- what every example opens
charges : Unit {0}
unfolding size stored charge and_then spend
charges = tt

-- ---- one evaluation

one_within : charge 11 10 one ≡ Ok (counter 11)
unfolding charges
one_within = refl

-- it stores the raised counter and then compares it: the counter is not left at the limit
one_past_limit : charge 10 10 one ≡ Err (ChargeError.LimitExceeded (counter 11) 11)
unfolding charges
one_past_limit = refl

-- from above the limit
one_from_past_limit : charge 2 5 one ≡ Err (ChargeError.LimitExceeded (counter 6) 6)
unfolding charges
one_from_past_limit = refl

-- overflow is asked before the limit
one_overflows : charge 0 top one ≡ Err (ChargeError.CoordinateOverflow (counter top))
unfolding charges
one_overflows = refl

-- ---- an area, stored only if accepted

area_within : charge 8 5 (area 3) ≡ Ok (counter 8)
unfolding charges
area_within = refl

area_past_limit : charge 7 5 (area 3) ≡ Err (ChargeError.LimitExceeded (counter 5) 8)
unfolding charges
area_past_limit = refl

area_overflows : charge top (top - 2) (area 3) ≡ Err (ChargeError.CoordinateOverflow (counter (top - 2)))
unfolding charges
area_overflows = refl

-- ---- one after the other

-- the first charge that is not accepted ends them: the last one would fit
first_refused_ends : spend 6 4 (one ∷ area 2 ∷ one ∷ []) ≡ Err (ChargeError.LimitExceeded (counter 5) 7)
unfolding charges
first_refused_ends = refl

-- without a charge any count is within any limit
no_charge : spend 0 5 [] ≡ Ok (counter 5)
unfolding charges
no_charge = refl
