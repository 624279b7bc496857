-- The byte that a loop stores for a region, as the definitions say it. Assumes nothing.
use Prim.Native.Nat.{ℕ, ◌≤◌}
use mathlib.Core.Path.{◌≡◌, refl, ap, ◌∙◌}
use mathlib.Core.Bool.{Bool, true, false, cond, not, ◌&&◌, ◌||◌, or-false, and_assoc}
use mathlib.Core.Logic.{◌⊎◌, inl, inr}
use native.Mathlib.Omega.{arith}
use lib.Dec.{ltb, eqb}
use lib.Ieee.{Float, lt, le, eq}
use mir.Val.{bool_byte}
use Rattle.hits.specs.declared.Wanted.{Wanted}
use Rattle.hits.specs.Said.{interval, meets, say_interval, compared, say_compared, say_between, say_counted}

pub byte_is : (t : Bool) → bool_byte t ≡ cond t 1 0
byte_is true = refl
byte_is false = refl

pub byte_few : (t : Bool) {byte : ℕ} → byte ≡ cond t 1 0 → byte ≤ 1
byte_few true e = omega arith
byte_few false e = omega arith

-- one of two tests without a branch
one_of : (which s t : Bool) → (which && s) || (not which && t) ≡ cond which s t
one_of true s t = or-false s
one_of false s t = refl

pub inside_byte : (low high x : Float) → bool_byte (le low x && le x high) ≡ say_interval (interval true low high) x
unfolding say_interval meets
inside_byte low high x = byte_is (le low x && le x high)

pub outside_byte : (low high x : Float) → bool_byte (lt x low || lt high x) ≡ say_interval (interval false low high) x
unfolding say_interval meets
outside_byte low high x = byte_is (lt x low || lt high x)

pub counted_byte : (unique : Bool) (found : ℕ)
    → bool_byte ((unique && eqb found 1) || (not unique && ltb 1 found)) ≡ say_counted unique found
unfolding say_counted
counted_byte unique found = ap bool_byte (one_of unique (eqb found 1) (ltb 1 found)) ∙ byte_is (cond unique (eqb found 1) (ltb 1 found))

-- 2 where something is missing, and else by a test
abbrev Chosen : Bool → Bool → ℕ → Type 0
Chosen missing met byte = ((missing ≡ true) × (byte ≡ 2)) ⊎ ((missing ≡ false) × (byte ≡ bool_byte met))

chosen_is : (missing met : Bool) (byte : ℕ) → Chosen missing met byte → byte ≡ cond missing 2 (cond met 1 0)
chosen_is missing met byte (inl (h, e)) = rw h e
chosen_is missing met byte (inr (h, e)) = rw h (e ∙ byte_is met)

pub compared_byte : (w : Wanted) (needed : Bool) (x y : Float) (byte : ℕ)
    → Chosen ((not (eq y y) && (eq x x || needed)) || (not (eq x x) && needed))
    ((w.less && lt x y) || (w.same && eq x y) || (w.more && lt y x)) byte
    → byte ≡ say_compared w needed x y
unfolding say_compared compared
compared_byte w needed x y = chosen_is _ (compared w x y)

meets_interval : (inside : Bool) (low high x : Float)
    → meets (interval inside low high) x ≡ cond inside (le low x && le x high) (lt x low || lt high x)
unfolding meets
meets_interval true low high x = refl
meets_interval false low high x = refl

pub between_byte : (inside : Bool) (x low high : Float) (byte : ℕ)
    → Chosen (eq x x && (not (eq low low) || not (eq high high)))
    ((inside && le low x && le x high) || (not inside && (lt x low || lt high x))) byte
    → byte ≡ say_between inside x low high
unfolding say_between meets
between_byte inside x low high byte h =
    let met = cond inside (le low x && le x high) (lt x low || lt high x) in
    let same : (inside && le low x && le x high) || (not inside && (lt x low || lt high x)) ≡ met =
    ap (λ t. t || (not inside && (lt x low || lt high x))) (and_assoc inside (le low x) (le x high))
    ∙ one_of inside (le low x && le x high) (lt x low || lt high x) in
    rw (meets_interval inside low high x) (chosen_is (eq x x && (not (eq low low) || not (eq high high))) met byte (rw same at h))
