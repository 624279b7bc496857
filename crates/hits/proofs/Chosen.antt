-- The places of the bytes that are 1, as the bytes are gone through: one more byte at the end. Assumes nothing.
use Prim.Native.Nat.{ℕ, zero, suc, ◌+◌, ◌≤◌, ◌<◌}
use mathlib.Core.Path.{◌≡◌, refl, ap}
use mathlib.Core.Bool.{Bool, true, false, cond}
use mathlib.Core.List.{List, [], ◌∷◌, ◌++◌}
use native.Mathlib.Nat.{add-zero, not-suc-le-zero}
use native.Mathlib.Numerals.{add-one}
use native.Mathlib.Omega.{arith}
use lib.Dec.{eqb}
use lib.ListN.{length, get_or, take}
use Rattle.hits.specs.Chosen.{chosen_from}

-- a place in front of those that follow, if it is chosen
abbrev pub ahead : Bool → ℕ → List ℕ → List ℕ
ahead b i later = cond b (i ∷ later) later

ahead_append : (b : Bool) (i : ℕ) (later rest : List ℕ) {more : List ℕ} → more ≡ later ++ rest
    → ahead b i more ≡ ahead b i later ++ rest
ahead_append true i later rest e = ap (λ l. i ∷ l) e
ahead_append false i later rest e = e

ahead_few : (b : Bool) (i : ℕ) (later : List ℕ) {n : ℕ} → length later ≤ n → length (ahead b i later) ≤ suc n
ahead_few true i later h = omega arith
ahead_few false i later h = omega arith

-- of the first n bytes
abbrev pub chosen : ℕ → List ℕ → ℕ → List ℕ
chosen i bytes n = chosen_from i (take n bytes)

pub chosen_none : (i : ℕ) (bytes : List ℕ) → chosen i bytes 0 ≡ []
unfolding chosen_from
chosen_none i bytes = refl

chosen_next : (i : ℕ) (bytes : List ℕ) (n : ℕ) → n < length bytes
    → chosen i bytes (suc n) ≡ chosen i bytes n ++ ahead (eqb (get_or bytes n 0) 1) (i + n) []
unfolding chosen_from
chosen_next i [] n h = absurd (not-suc-le-zero h)
chosen_next i (byte ∷ bytes) zero h = rw (add-zero i)
chosen_next i (byte ∷ bytes) (suc n) h =
    let e : i + suc n ≡ suc i + n = omega arith in
    ahead_append (eqb byte 1) i _ _ (rw e (chosen_next (suc i) bytes n (omega arith)))

-- one more byte at the end
pub chosen_more : (i : ℕ) (bytes : List ℕ) (n : ℕ) → n < length bytes
    → chosen i bytes (n + 1) ≡ chosen i bytes n ++ ahead (eqb (get_or bytes n 0) 1) (i + n) []
chosen_more i bytes n h = rw add-one (chosen_next i bytes n h)

pub chosen_few : (i : ℕ) (bytes : List ℕ) (n : ℕ) → length (chosen i bytes n) ≤ n
unfolding chosen_from
chosen_few i bytes zero = omega arith
chosen_few i [] (suc n) = omega arith
chosen_few i (byte ∷ bytes) (suc n) = ahead_few (eqb byte 1) i _ (chosen_few (suc i) bytes n)
