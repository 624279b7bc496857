-- Reading on keeps the bounds, where what goes to the pool is no longer than the text that it was read from. Assumes nothing.
use Prim.Native.Nat.{ℕ, ◌+◌, ◌≤◌}
use mathlib.Core.Path.{◌≡◌, refl}
use mathlib.Core.Bool.{Bool, true, false, ◌&&◌}
use mathlib.Core.List.{List}
use native.Mathlib.Omega.{arith}
use lib.Dec.{leb}
use lib.ListN.{length}
use borrow.Author.Tests.{le-leb, leb-true}
use Rattle.grammar.specs.Gram.{Gram, Exactly}
use Rattle.grammar.specs.Gram.Got.{got}
use Rattle.grammar.proofs.Places.{forward, inside}
use Rattle.fields.specs.Room.{Room, roomy}

-- past a value of which n bytes go to the pool
pub room_past : {A : Type 0} {g : Gram A} {s : List ℕ} {at used : ℕ} → Exactly g → (a : A) (q n : ℕ) → Room s at used
    → g.parse s at ≡ got a q → n ≤ length (g.text a) → Room s q (used + n)
room_past {A} {g} {s} {at} {used} G a q n r e h =
    let l = r.low in
    let i = r.inside in
    let k = G.next s at a q e in
    record { low = omega arith; inside = inside G s at a q e i; short = r.short }

-- past a value of which nothing goes there
pub room_on : {A : Type 0} {g : Gram A} {s : List ℕ} {at used : ℕ} → Exactly g → (a : A) (q : ℕ) → Room s at used
    → g.parse s at ≡ got a q → Room s q used
room_on {A} {g} {s} {at} {used} G a q r e =
    let l = r.low in
    let i = r.inside in
    let k = forward G s at a q e in
    record { low = omega arith; inside = inside G s at a q e i; short = r.short }

pub room_used : {s : List ℕ} {at used : ℕ} → Room s at used → used ≤ 65_536
room_used r = let a = r.low in let b = r.inside in let c = r.short in omega arith

split : (a b : Bool) → (a && b) ≡ true → (a ≡ true) × (b ≡ true)
split true true e = (refl, refl)
split true false e = let w : ◌≡◌ {A = ℕ} 0 1 = cc in absurd (omega arith)
split false b e = let w : ◌≡◌ {A = ℕ} 0 1 = cc in absurd (omega arith)

pub roomy_room : (s : List ℕ) (at used : ℕ) → roomy s at used ≡ true → Room s at used
unfolding roomy
roomy_room s at used e =
    let a = split (leb used at && leb at (length s)) (leb (length s) 65_536) e in
    let b = split (leb used at) (leb at (length s)) a.0 in
    record { low = leb-true _ _ b.0; inside = leb-true _ _ b.1; short = leb-true _ _ a.1 }

pub room_roomy : {s : List ℕ} {at used : ℕ} → Room s at used → roomy s at used ≡ true
unfolding roomy
room_roomy r = rw (le-leb _ _ r.low, le-leb _ _ r.inside, le-leb _ _ r.short)
