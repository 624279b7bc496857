-- Floats compared: those that are numbers, an infinity among them, and not-a-number, which fails every comparison. Assumes nothing.
use mathlib.Core.Path.{◌≡◌, refl, sym, ap, ◌∙◌}
use mathlib.Core.Bool.{Bool, true, false, not, ◌&&◌, ◌||◌, true≢false, false≢true, beq, and-false}
use Prim.Native.Nat.{ℕ, ◌*◌}
use lib.Dec.{eqb}
use lib.Ieee.{Float, nan, inf, fin, up, down, level, lt, le, eq, ne}
use borrow.Author.Tests.{eqb-true, eqb-false, eq-eqb, ne_eqb}
use Rattle.model.specs.Readings.{finite}
use Rattle.laws.proofs.FloatOrder as FloatOrder

abbrev pub IsNumber : Float → Type 0
IsNumber x = eq x x ≡ true

-- ---- what is a number

beq_self : (s : Bool) → beq s s ≡ true
beq_self true = refl
beq_self false = refl

level_self : (s : Bool) (a : ℕ) → level s a s a ≡ true
level_self s a = rw (eq-eqb a a refl, beq_self s)

pub not_number : (x : Float) → eq x x ≡ false → x ≡ nan
unfolding eq
not_number nan h = refl
not_number (inf s) h = absurd (true≢false (sym (beq_self s) ∙ h))
not_number (fin s m e) h = absurd (true≢false (sym (level_self s (m * up e * down e)) ∙ h))

pub finite_number : (x : Float) → finite x ≡ true → IsNumber x
unfolding finite eq
finite_number nan h = absurd (false≢true h)
finite_number (inf s) h = absurd (false≢true h)
finite_number (fin s m e) h = level_self s (m * up e * down e)

-- ---- not-a-number

pub lt_nan : (x : Float) → lt x nan ≡ false
unfolding lt
lt_nan nan = refl
lt_nan (inf s) = refl
lt_nan (fin s m e) = refl

pub nan_lt : (x : Float) → lt nan x ≡ false
unfolding lt
nan_lt x = refl

pub nan_le : (x : Float) → le nan x ≡ false
unfolding le lt eq
nan_le x = refl

pub nan_eq : (x : Float) → eq nan x ≡ false
unfolding eq
nan_eq x = refl

-- ---- the infinities

pub lt_bottom : (x : Float) → lt x (inf true) ≡ false
unfolding lt
lt_bottom nan = refl
lt_bottom (inf s) = and-false s
lt_bottom (fin s m e) = refl

pub top_lt : (x : Float) → lt (inf false) x ≡ false
unfolding lt
top_lt nan = refl
top_lt (inf s) = refl
top_lt (fin s m e) = refl

pub le_top : (x : Float) → IsNumber x → le x (inf false) ≡ true
unfolding le lt eq
le_top nan h = absurd (false≢true h)
le_top (inf true) h = refl
le_top (inf false) h = refl
le_top (fin s m e) h = refl

pub bottom_le : (x : Float) → IsNumber x → le (inf true) x ≡ true
unfolding le lt eq
bottom_le nan h = absurd (false≢true h)
bottom_le (inf true) h = refl
bottom_le (inf false) h = refl
bottom_le (fin s m e) h = refl

-- no float is both
pub top_bottom : (x : Float) → le (inf false) x && le x (inf true) ≡ false
unfolding le lt eq
top_bottom nan = refl
top_bottom (inf true) = refl
top_bottom (inf false) = refl
top_bottom (fin s m e) = refl

-- ---- two numbers

eqb_comm : (a b : ℕ) → eqb a b ≡ eqb b a
eqb_comm a b = decided (eqb b a) refl
  where
    decided : (t : Bool) → eqb b a ≡ t → eqb a b ≡ t
    decided true e = eq-eqb a b (sym (eqb-true b a e))
    decided false e = ne_eqb a b (λ q. eqb-false b a e (sym q))

beq_comm : (s t : Bool) → beq s t ≡ beq t s
beq_comm true true = refl
beq_comm true false = refl
beq_comm false true = refl
beq_comm false false = refl

level_comm : (s t : Bool) (a b : ℕ) → level s a t b ≡ level t b s a
level_comm s t a b = decided (eqb a b) refl
  where
    decided : (p : Bool) → eqb a b ≡ p → p && (beq s t || eqb a 0) ≡ eqb b a && (beq t s || eqb b 0)
    decided true e = rw (eq-eqb b a (sym (eqb-true a b e)), eqb-true a b e, beq_comm s t)
    decided false e = rw (eqb_comm b a, e)

pub eq_comm : (x y : Float) → eq x y ≡ eq y x
unfolding eq
eq_comm nan nan = refl
eq_comm nan (inf t) = refl
eq_comm nan (fin t n d) = refl
eq_comm (inf s) nan = refl
eq_comm (inf s) (inf t) = beq_comm s t
eq_comm (inf s) (fin t n d) = refl
eq_comm (fin s m e) nan = refl
eq_comm (fin s m e) (inf t) = refl
eq_comm (fin s m e) (fin t n d) = level_comm s t (m * up e * down d) (n * up d * down e)

pub more_or_equal : (x y : Float) → lt y x || eq x y ≡ le y x
unfolding le
more_or_equal x y = ap (λ t. lt y x || t) (eq_comm x y)

le_not_less : (x y : Float) → IsNumber x → IsNumber y → le x y ≡ not (lt y x)
unfolding le lt eq finite
le_not_less nan y p q = absurd (false≢true p)
le_not_less (inf s) nan p q = absurd (false≢true q)
le_not_less (inf true) (inf true) p q = refl
le_not_less (inf true) (inf false) p q = refl
le_not_less (inf false) (inf true) p q = refl
le_not_less (inf false) (inf false) p q = refl
le_not_less (inf true) (fin t n d) p q = refl
le_not_less (inf false) (fin t n d) p q = refl
le_not_less (fin s m e) nan p q = absurd (false≢true q)
le_not_less (fin s m e) (inf true) p q = refl
le_not_less (fin s m e) (inf false) p q = refl
le_not_less (fin s m e) (fin t n d) p q = FloatOrder.le_not_less (fin s m e) (fin t n d) refl refl

-- less, equal and more exclude each other, and one of them holds
one_holds : (less more same : Bool) → less || same ≡ not more → more || same ≡ not less
    → ((more || same) && (less || same) ≡ same) × (less || more ≡ not same)
one_holds true true same h k = absurd (true≢false h)
one_holds true false true h k = absurd (true≢false k)
one_holds true false false h k = (refl, refl)
one_holds false true true h k = absurd (true≢false h)
one_holds false true false h k = (refl, refl)
one_holds false false true h k = (refl, refl)
one_holds false false false h k = absurd (false≢true h)

module _ (x y : Float) (p : IsNumber x) (q : IsNumber y) where
  told : ((lt y x || eq x y) && (lt x y || eq x y) ≡ eq x y) × (lt x y || lt y x ≡ not (eq x y))
  unfolding le
  told = one_holds (lt x y) (lt y x) (eq x y) (le_not_less x y p q) (more_or_equal x y ∙ le_not_less y x q p)

  pub both_equal : le y x && le x y ≡ eq x y
  unfolding le
  both_equal = ap (λ t. t && le x y) (sym (more_or_equal x y)) ∙ told.0

  pub either_differs : lt x y || lt y x ≡ ne x y
  unfolding ne
  either_differs = told.1
