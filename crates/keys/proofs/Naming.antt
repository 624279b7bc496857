-- Names: two keys have one name just when they are the same. Assumes nothing.
use Rattle.std.specs.Prelude.{Some, None}
use Prim.Native.Nat.{ℕ, zero, suc, ◌-◌, ◌≤◌, ◌<◌}
use mathlib.Core.Path.{◌≡◌, refl, sym, ap, ◌∙◌}
use mathlib.Core.Bool.{Bool, true, false, cond}
use mathlib.Core.List.{List, [], ◌∷◌, ◌++◌, map}
use native.Mathlib.Omega.{arith}
use lib.Dec.{eqb, eqb-zero-suc}
use lib.ListN.{length, get_or, replicate, get_or-map}
use borrow.Author.Tests.{eq-eqb, ne_eqb}
use Rattle.model.specs.Options.{Key}
use Rattle.model.specs.declared.ConditionalValueKey.{ConditionalValueKey}
use Rattle.model.specs.Readings.{same_key, has_key}
use Rattle.keys.specs.Names.{first_same, name_of, padded}
use Rattle.keys.proofs.SameKeys.{differ, no_key_differs, key_swap, key_itself, key_joined}

-- ---- numbers with zeros after them

pub zeros_at : (m i : ℕ) → ◌≡◌ {A = ℕ} (get_or (replicate m 0) i 0) 0
zeros_at zero i = refl
zeros_at (suc m) zero = refl
zeros_at (suc m) (suc i) = zeros_at m i

zeros_after : (xs : List ℕ) (m i : ℕ) → get_or (xs ++ replicate m 0) i 0 ≡ get_or xs i 0
zeros_after [] m i = zeros_at m i
zeros_after (x ∷ xs) m zero = refl
zeros_after (x ∷ xs) m (suc i) = zeros_after xs m i

-- a number for each key, 0 for none
module _ (f : Key → ℕ) (none : f None ≡ 0) (ks : List Key) where
  pub mapped_at : (i : ℕ) → get_or (map f ks) i 0 ≡ f (get_or ks i None)
  mapped_at i = rw none at (get_or-map f ks i None)

  pub padded_at : (i : ℕ) → get_or (padded (map f ks)) i 0 ≡ f (get_or ks i None)
  padded_at i = zeros_after (map f ks) (1024 - length (map f ks)) i ∙ mapped_at i

-- ---- the first of the same keys

pub keyed_within : (ks : List Key) (i : ℕ) → has_key (get_or ks i None) ≡ true → i < length ks
unfolding has_key
keyed_within [] i h = differ h
keyed_within (k ∷ ks) zero h = omega arith
keyed_within (k ∷ ks) (suc i) h = omega (arith, keyed_within ks i h)

module _ (pool : List ℕ) where
  first_swap : (k l : Key) → same_key pool k l ≡ true → (ls : List Key) → first_same pool k ls ≡ first_same pool l ls
  unfolding first_same
  first_swap k l h [] = refl
  first_swap k l h (m ∷ ls) = rw (key_swap pool k l m h, first_swap k l h ls)

  apart_more : (k l m : Key) (x y n : ℕ) (a b : Bool) → same_key pool k l ≡ false → same_key pool m k ≡ a → same_key pool m l ≡ b
      → (x < n → x ≡ y → ⊥) → cond a 0 (suc x) < suc n → cond a 0 (suc x) ≡ cond b 0 (suc y) → ⊥
  apart_more k l m x y n true true e p q later h same = differ (sym e ∙ key_joined pool m k l p q)
  apart_more k l m x y n true false e p q later h same = omega arith
  apart_more k l m x y n false true e p q later h same = omega arith
  apart_more k l m x y n false false e p q later h same = later (omega arith) (omega arith)

  first_apart : (k l : Key) → same_key pool k l ≡ false → (ls : List Key) → first_same pool k ls < length ls
      → first_same pool k ls ≡ first_same pool l ls → ⊥
  unfolding first_same
  first_apart k l e [] h same = omega arith
  first_apart k l e (m ∷ ls) h same =
      apart_more k l m (first_same pool k ls) (first_same pool l ls) (length ls) (same_key pool m k) (same_key pool m l) e refl refl
      (first_apart k l e ls) h same

  here_or_later : (same : Bool) (x i : ℕ) → x ≤ i → cond same 0 (suc x) ≤ suc i
  here_or_later true x i h = omega arith
  here_or_later false x i h = omega arith

  -- no key that is the same stands before the first
  pub first_below : (k : Key) (ks : List Key) (i : ℕ) → same_key pool (get_or ks i None) k ≡ true → first_same pool k ks ≤ i
  unfolding first_same same_key
  first_below k [] i h = differ h
  first_below k (m ∷ ks) zero h = rw h (omega arith)
  first_below k (m ∷ ks) (suc i) h = here_or_later (same_key pool m k) (first_same pool k ks) i (first_below k ks i h)

  same_or_later : (k m : Key) (ks : List Key) (same : Bool) → same_key pool m k ≡ same
      → (first_same pool k ks < length ks → same_key pool (get_or ks (first_same pool k ks) None) k ≡ true)
      → cond same 0 (suc (first_same pool k ks)) < suc (length ks)
      → same_key pool (get_or (m ∷ ks) (cond same 0 (suc (first_same pool k ks))) None) k ≡ true
  same_or_later k m ks true e later h = e
  same_or_later k m ks false e later h = later (omega arith)

  -- the first is the same
  pub first_same_lem : (k : Key) (ks : List Key) → first_same pool k ks < length ks
      → same_key pool (get_or ks (first_same pool k ks) None) k ≡ true
  unfolding first_same
  first_same_lem k [] h = absurd (omega arith)
  first_same_lem k (m ∷ ks) h = same_or_later k m ks (same_key pool m k) refl (first_same_lem k ks) h

  pub first_within : (ks : List Key) (i : ℕ) → has_key (get_or ks i None) ≡ true → first_same pool (get_or ks i None) ks ≤ i
  first_within ks i e = first_below (get_or ks i None) ks i (key_itself pool (get_or ks i None) e)

  -- ---- one name

  module _ (ks : List Key) (k : Key) (keyed : has_key k ≡ true) (within : first_same pool k ks < length ks) where
    keyed_alike : (l : Key) (same : Bool) → same_key pool k l ≡ same → eqb (suc (first_same pool l ks)) (suc (first_same pool k ks)) ≡ same
    keyed_alike l true e = eq-eqb _ _ (ap suc (sym (first_swap k l e ks)))
    keyed_alike l false e =
        ne_eqb (suc (first_same pool l ks)) (suc (first_same pool k ks)) (λ q. first_apart k l e ks within (omega (arith, q)))

    name_alike : (l : Key) → eqb (name_of pool ks l) (name_of pool ks k) ≡ same_key pool k l
    unfolding name_of has_key
    name_alike (Some (ConditionalValueKey.Number a)) = rw keyed (keyed_alike (Some (ConditionalValueKey.Number a)) _ refl)
    name_alike (Some (ConditionalValueKey.Text t)) = rw keyed (keyed_alike (Some (ConditionalValueKey.Text t)) _ refl)
    name_alike (Some (ConditionalValueKey.Bool b)) = rw keyed (keyed_alike (Some (ConditionalValueKey.Bool b)) _ refl)
    name_alike None = rw (keyed, no_key_differs pool k) (eqb-zero-suc (first_same pool k ks))

  pub name_keyed : (ks : List Key) (k : Key) → has_key k ≡ true → name_of pool ks k ≡ suc (first_same pool k ks)
  unfolding name_of
  name_keyed ks k h = rw h

  pub name_none : (ks : List Key) (k : Key) → has_key k ≡ false → name_of pool ks k ≡ 0
  unfolding name_of
  name_none ks k h = rw h

  keyed_first : (ks : List Key) (i : ℕ) → has_key (get_or ks i None) ≡ true → first_same pool (get_or ks i None) ks < length ks
  keyed_first ks i h = omega (arith, keyed_within ks i h, first_within ks i h)

  -- a key has the name of the key at an index just when it is the same
  pub named_alike : (ks : List Key) (i : ℕ) → has_key (get_or ks i None) ≡ true → (l : Key)
      → eqb (name_of pool ks l) (name_of pool ks (get_or ks i None)) ≡ same_key pool (get_or ks i None) l
  named_alike ks i h l = name_alike ks (get_or ks i None) h (keyed_first ks i h) l
