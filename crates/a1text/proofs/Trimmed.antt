-- What the split drops is dropped once: bytes that are trimmed stay as they are when they are trimmed again. Assumes nothing.
use Prim.Native.Nat.{ℕ}
use mathlib.Core.Path.{◌≡◌, refl, ap, ◌∙◌}
use mathlib.Core.Bool.{Bool, true, false, cond}
use mathlib.Core.List.{List, [], ◌∷◌, ◌++◌, reverse, reverse-append, reverse-reverse}
use lib.Dec.{eqb}
use Rattle.model.specs.Split.{blank, drop_blanks, trimmed, without_equals, formula}
use Rattle.a1text.specs.Bytes.{begins_with}

-- ---- blanks at the start

pub blanks_none : (l : List ℕ) → begins_with blank l ≡ false → drop_blanks l ≡ l
unfolding begins_with drop_blanks
blanks_none [] e = refl
blanks_none (b ∷ l) e = rw e

pub blanks_dropped : (l : List ℕ) → begins_with blank (drop_blanks l) ≡ false
unfolding begins_with drop_blanks
blanks_dropped [] = refl
blanks_dropped (b ∷ l) = go (blank b) refl (blanks_dropped l)
  where
    go : (x : Bool) → blank b ≡ x → begins_with blank (drop_blanks l) ≡ false → begins_with blank (cond x (drop_blanks l) (b ∷ l)) ≡ false
    go true e ih = ih
    go false e ih = e

-- a byte at the end that is no blank stays
blanks_last : (l : List ℕ) (b : ℕ) → blank b ≡ false → drop_blanks (l ++ (b ∷ [])) ≡ drop_blanks l ++ (b ∷ [])
unfolding drop_blanks
blanks_last [] b e = rw e
blanks_last (c ∷ l) b e = go (blank c) (blanks_last l b e)
  where
    go : (x : Bool) → drop_blanks (l ++ (b ∷ [])) ≡ drop_blanks l ++ (b ∷ [])
        → cond x (drop_blanks (l ++ (b ∷ []))) (c ∷ (l ++ (b ∷ []))) ≡ cond x (drop_blanks l) (c ∷ l) ++ (b ∷ [])
    go true ih = ih
    go false ih = refl

-- ---- at both ends

pub trimmed_tight : (l : List ℕ) → begins_with blank l ≡ false → begins_with blank (reverse l) ≡ false → trimmed l ≡ l
unfolding trimmed
trimmed_tight l e f = rw (blanks_none l e, blanks_none (reverse l) f) (reverse-reverse l)

first_kept : (l : List ℕ) → begins_with blank l ≡ false → begins_with blank (reverse (drop_blanks (reverse l))) ≡ false
unfolding begins_with drop_blanks
first_kept [] e = refl
first_kept (b ∷ l) e =
    rw (
      reverse-append (b ∷ []) l,
      blanks_last (reverse l) b e,
      reverse-append (drop_blanks (reverse l)) (b ∷ []),
    )
    e

trimmed_starts : (l : List ℕ) → begins_with blank (trimmed l) ≡ false
unfolding trimmed
trimmed_starts l = first_kept (drop_blanks l) (blanks_dropped l)

trimmed_ends : (l : List ℕ) → begins_with blank (reverse (trimmed l)) ≡ false
unfolding trimmed
trimmed_ends l = rw (reverse-reverse (drop_blanks (reverse (drop_blanks l)))) (blanks_dropped (reverse (drop_blanks l)))

pub trimmed_again : (l : List ℕ) → trimmed (trimmed l) ≡ trimmed l
trimmed_again l = trimmed_tight (trimmed l) (trimmed_starts l) (trimmed_ends l)

-- bytes give the formula that they give trimmed
pub formula_trimmed : (l : List ℕ) → formula (trimmed l) ≡ formula l
unfolding formula
formula_trimmed l = ap without_equals (trimmed_again l)

equals_none : (l : List ℕ) → begins_with (λ b. eqb b 61) l ≡ false → without_equals l ≡ l
unfolding begins_with without_equals
equals_none [] g = refl
equals_none (b ∷ l) g = rw g

-- a text with nothing to drop
pub formula_tight : (l : List ℕ) → begins_with blank l ≡ false → begins_with blank (reverse l) ≡ false
    → begins_with (λ b. eqb b 61) l ≡ false → formula l ≡ l
unfolding formula
formula_tight l e f g = ap without_equals (trimmed_tight l e f) ∙ equals_none l g
