-- The bytes at the start of a text that pass a test: all of them do, the next does not, and what passes is taken whole. Assumes nothing.
use Prim.Native.Nat.{ℕ, suc, ◌+◌}
use mathlib.Core.Path.{◌≡◌, refl, sym, ap, ◌∙◌}
use mathlib.Core.Bool.{Bool, true, false, cond, and-eq-true_iff}
use mathlib.Core.List.{List, [], ◌∷◌, ◌++◌}
use native.Mathlib.Omega.{arith}
use lib.ListN.{length, drop, get_or}
use lib.Seq.{get_or-drop}
use Rattle.model.specs.Readings.{every}
use Rattle.a1text.specs.Bytes.{begins_with, taken}

module _ (test : ℕ → Bool) where
  pub taken_passes : (bs : List ℕ) → every test (taken test bs) ≡ true
  unfolding every taken
  taken_passes [] = refl
  taken_passes (b ∷ bs) = go (test b) refl (taken_passes bs)
    where
      go : (x : Bool) → test b ≡ x → every test (taken test bs) ≡ true → every test (cond x (b ∷ taken test bs) []) ≡ true
      go true e ih = (and-eq-true_iff (test b) _).1 (e, ih)
      go false e ih = refl

  -- what is taken, and what follows it, which begins with no byte that passes
  pub record Run (s : List ℕ) : Type 0 where
    pub split : s ≡ taken test s ++ drop (length (taken test s)) s
    pub stops : begins_with test (drop (length (taken test s)) s) ≡ false

  pub run : (s : List ℕ) → Run s
  unfolding taken begins_with
  run [] = record { split = refl; stops = refl }
  run (b ∷ bs) = go (test b) refl (run bs)
    where
      go : (x : Bool) → test b ≡ x → Run bs → Run (b ∷ bs)
      go true e r = record { split = rw e (ap (λ (l : List ℕ). b ∷ l) r.split); stops = rw e r.stops }
      go false e r = record { split = rw e; stops = rw e e }

  pub taken_all : (xs t : List ℕ) → every test xs ≡ true → begins_with test t ≡ false → taken test (xs ++ t) ≡ xs
  unfolding every taken begins_with
  taken_all [] [] e f = refl
  taken_all [] (b ∷ t) e f = rw f
  taken_all (x ∷ xs) t e f =
      let h = (and-eq-true_iff (test x) (every test xs)).0 e in
      rw (h.0, taken_all xs t h.1 f)

-- ---- the byte at a place

pub at_place : (s : List ℕ) (at : ℕ) → get_or s at 0 ≡ get_or (drop at s) 0 0
at_place s at = let z : at + 0 ≡ at = omega arith in sym (get_or-drop at s 0 0 ∙ ap (λ (k : ℕ). get_or s k 0) z)

-- a test that 0 does not pass is passed by the byte at the start exactly if the text begins with one that passes
pub begins_first : (test : ℕ → Bool) → test 0 ≡ false → (t : List ℕ) → test (get_or t 0 0) ≡ begins_with test t
unfolding begins_with
begins_first test z [] = z
begins_first test z (b ∷ t) = refl

-- none of the bytes passes, and 0 does not: so no byte at a place does
pub every_at : (test : ℕ → Bool) → test 0 ≡ true → (t : List ℕ) (i : ℕ) → every test t ≡ true → test (get_or t i 0) ≡ true
unfolding every
every_at test z [] i e = z
every_at test z (b ∷ t) ℕ.zero e = ((and-eq-true_iff (test b) (every test t)).0 e).0
every_at test z (b ∷ t) (suc i) e = every_at test z t i ((and-eq-true_iff (test b) (every test t)).0 e).1
