-- Values that are all finite, by their members and by counts, and the number that is told of them. Assumes nothing.
use Rattle.std.specs.Prelude.{Some, None}
use Rattle.std.proofs.Common.{◌≡◌, ℕ, suc, ◌+◌, Bool, true, false, cond, ◌&&◌, eqb, List, [], ◌∷◌, length, refl, ap, ◌∙◌, true≢false, arith, ne_eqb}
use mathlib.Core.Bool.{false≢true}
use mathlib.Core.List.{not-mem-nil}
use lib.Dec.{eqb-suc-suc}
use lib.Ieee.{Float, nan, inf, fin, lt}
use Rattle.model.specs.Options.{Reading}
use Rattle.model.specs.Readings.{finite}
use Rattle.laws.proofs.Sorting.{Each, each_cons}
use Rattle.laws.proofs.FloatOrder.{Finite}
use Rattle.std.specs.List.{count_by}
use Rattle.std.proofs.lemmas.List.Sums.{sum_by-cons, count_by-le-length}
use Rattle.ranks.specs.Finite.{all_finite, if_finite}

pub all_finite_lem : (xs : List Float) → all_finite xs ≡ true → Each Finite xs
unfolding all_finite
all_finite_lem [] e = λ a m. absurd (not-mem-nil m)
all_finite_lem (x ∷ xs) e = decided (finite x) refl e (all_finite_lem xs)
  where
    decided : (b : Bool) → finite x ≡ b → b && all_finite xs ≡ true → (all_finite xs ≡ true → Each Finite xs) → Each Finite (x ∷ xs)
    decided true p h later = each_cons finite p (later h)
    decided false p h later = absurd (false≢true h)

eqb_more : (a b : ℕ) → eqb (1 + a) (suc b) ≡ eqb a b
eqb_more a b = let e : 1 + a ≡ suc a = omega arith in ap (λ (n : ℕ). eqb n (suc b)) e ∙ eqb-suc-suc a b

-- greater than -∞ and less than ∞
abbrev pub bounded : Float → Bool
bounded x = lt (inf true) x && lt x (inf false)

-- among one more not all are bounded
too_few : (xs : List Float) → eqb (0 + count_by bounded xs) (suc (length xs)) ≡ false
too_few xs =
    let n = 0 + count_by bounded xs in
    let m = suc (length xs) in
    ne_eqb n m (λ (e : n ≡ m). omega (arith, e, count_by-le-length bounded xs))

bounded_cons : (x : Float) (xs : List Float) → count_by bounded (x ∷ xs) ≡ cond (bounded x) 1 0 + count_by bounded xs
bounded_cons = sum_by-cons (λ x. cond (bounded x) 1 0)

-- values are all finite exactly if as many are bounded as there are
pub finite_counted : (xs : List Float) → eqb (count_by bounded xs) (length xs) ≡ all_finite xs
unfolding all_finite finite lt
finite_counted [] = refl
finite_counted (nan ∷ xs) = rw (bounded_cons nan xs) (too_few xs)
finite_counted (inf false ∷ xs) = rw (bounded_cons (inf false) xs) (too_few xs)
finite_counted (inf true ∷ xs) = rw (bounded_cons (inf true) xs) (too_few xs)
finite_counted (fin s m e ∷ xs) =
    rw (bounded_cons (fin s m e) xs) (eqb_more (count_by bounded xs) (length xs) ∙ finite_counted xs)

-- ---- the number told

module _ (xs : List Float) (v : Float) where
  pub told : (x : Float) → all_finite xs ≡ true → x ≡ v → Some x ≡ if_finite xs v
  unfolding if_finite
  told x e h = rw (e, h)

  pub untold : all_finite xs ≡ false → None ≡ if_finite xs v
  unfolding if_finite
  untold e = rw e

  -- a number told is that
  pub told_is : (x : Float) → Some x ≡ if_finite xs v → x ≡ v
  unfolding if_finite
  told_is x h = decided (all_finite xs) h
    where
      number : Reading → Float
      number (Some y) = y
      number None = x

      is_number : Reading → Bool
      is_number (Some y) = true
      is_number None = false

      decided : (b : Bool) → Some x ≡ cond b (Some v) None → x ≡ v
      decided true e = ap number e
      decided false e = absurd (true≢false (ap is_number e))
