-- What saving comes to, in words of the checks and of the text's length: a refusal of the checks is handed on, 13 is a text that does not
-- fit, and any other job is saved whole. After a refusal the lent bytes are zeros. Assumes nothing.
use Prim.Native.Nat.{ℕ, ◌≤◌, ◌<◌}
use native.Mathlib.Omega.{arith}
use mathlib.Core.Path.{◌≡◌, refl, ap}
use mathlib.Core.Logic.{◌⊎◌, inl, inr, ◌↔◌}
use mathlib.Core.Bool.{Bool, true, false, cond, ◌||◌}
use mathlib.Core.List.{List, [], ◌∷◌}
use mathlib.Core.Option.{Option, none, some}
use lib.Dec.{ltb}
use lib.ListN.{length, replicate}
use borrow.Author.Tests.{ltb-true, ltb-false, eq-eqb, ne_eqb}
use Rattle.memory.specs.Memory.{page}
use Rattle.memory.proofs.Laws.{page_refused}
use Rattle.model.specs.Answer.{Summary, refusal, answer}
use Rattle.model.specs.Job.{Job, refuse_at, refuse_if, first_of, malformed}
use Rattle.laws.specs.Demands.{WellFormed}
use Rattle.jobtext.specs.Read.{max_text}
use Rattle.savedtext.specs.Saved.{text_of, too_long_for, fitted, saved, is_saved, saved_bytes}

-- ---- the numbers of the checks

-- a refusal, if it is one, with a number from 1 to 5
abbrev Early : Option Summary → Type 0
Early none = Unit {0}
Early (some s) = (0 < s.number) × (s.number ≤ 5)

abbrev AllEarly : List (Option Summary) → Type 0
AllEarly [] = Unit {0}
AllEarly (c ∷ cs) = Early c × AllEarly cs

first_early : (cs : List (Option Summary)) → AllEarly cs → Early (first_of cs)
unfolding first_of
first_early [] h = tt
first_early (none ∷ cs) h = first_early cs h.1
first_early (some s ∷ cs) h = h.0

module _ (j : Job) (number : ℕ) (low : 0 < number) (high : number ≤ 5) where
  at_early : (o : Option ℕ) → Early (refuse_at j number o)
  unfolding refuse_at refusal
  at_early none = tt
  at_early (some place) = (low, high)

  if_early : (place : ℕ) (b : Bool) → Early (refuse_if j number place b)
  unfolding refuse_if refusal
  if_early place true = (low, high)
  if_early place false = tt

malformed_early : (j : Job) → Early (malformed j)
unfolding malformed
malformed_early j =
    first_early _ (
      if_early j 1 (omega arith) (omega arith) 0 _,
      (
        if_early j 2 (omega arith) (omega arith) 0 _,
        (
          at_early j 3 (omega arith) (omega arith) _,
          (
            at_early j 3 (omega arith) (omega arith) _,
            (
              at_early j 4 (omega arith) (omega arith) _,
              (
                at_early j 4 (omega arith) (omega arith) _,
                (at_early j 5 (omega arith) (omega arith) _, (if_early j 5 (omega arith) (omega arith) 64 _, tt)),
              ),
            ),
          ),
        ),
      ),
    )

pub malformed_number : (j : Job) (s : Summary) → malformed j ≡ some s → (0 < s.number) × (s.number ≤ 5)
malformed_number j s h = rw h at (malformed_early j)

-- ---- what saving comes to

module _ (l : ℕ) (j : Job) (room : ℕ) where
  abbrev needed : ℕ
  needed = length (text_of l j)

  pub data Saving : Type 0 where
    refused : (s : Summary) → malformed j ≡ some s → saved l j room ≡ s → Saving
    too_long : WellFormed j → (room < needed) ⊎ (max_text < needed) → saved l j room ≡ refusal 13 0 j.start needed → Saving
    whole : WellFormed j → needed ≤ room → needed ≤ max_text → saved l j room ≡ answer j.start 0 0 0 → Saving

  -- a refusal of the checks is handed on
  pub saved_malformed : (s : Summary) → malformed j ≡ some s → saved l j room ≡ s
  unfolding saved
  saved_malformed s h = rw h

  saved_checked : WellFormed j → saved l j room ≡ fitted j.start room (text_of l j)
  unfolding saved
  saved_checked h = rw h

  saving_checked : WellFormed j → Saving
  unfolding fitted too_long_for
  saving_checked h = go (ltb room needed) (ltb max_text needed) refl refl (saved_checked h)
    where
      go : (a b : Bool) → ltb room needed ≡ a → ltb max_text needed ≡ b
          → saved l j room ≡ cond (a || b) (refusal 13 0 j.start needed) (answer j.start 0 0 0) → Saving
      go true b e f s = Saving.too_long h (inl (ltb-true room needed e)) s
      go false true e f s = Saving.too_long h (inr (ltb-true max_text needed f)) s
      go false false e f s = Saving.whole h (ltb-false room needed e) (ltb-false max_text needed f) s

  pub saving : Saving
  saving = go (malformed j) refl
    where
      go : (m : Option Summary) → malformed j ≡ m → Saving
      go none e = saving_checked e
      go (some s) e = Saving.refused s e (saved_malformed s e)

  -- ---- 13

  short_or_long : (room < needed) ⊎ (max_text < needed) → needed ≤ room → needed ≤ max_text → ⊥
  short_or_long (inl h) r m = omega arith
  short_or_long (inr h) r m = omega arith

  thirteen_is : (saved l j room).number ≡ 13
      → (WellFormed j × ((room < needed) ⊎ (max_text < needed))) × (saved l j room ≡ refusal 13 0 j.start needed)
  unfolding answer
  thirteen_is e = go saving
    where
      go : Saving → (WellFormed j × ((room < needed) ⊎ (max_text < needed))) × (saved l j room ≡ refusal 13 0 j.start needed)
      go (Saving.refused s m is) = absurd (omega (arith, (malformed_number j s m).1, ap (λ (x : Summary). x.number) is))
      go (Saving.too_long w long is) = ((w, long), is)
      go (Saving.whole w r m is) = absurd (omega (arith, ap (λ (x : Summary). x.number) is))

  pub thirteen_values : (saved l j room).number ≡ 13 → saved l j room ≡ refusal 13 0 j.start (length (text_of l j))
  thirteen_values e = (thirteen_is e).1

  pub thirteen_saved : WellFormed j → (room < length (text_of l j)) ⊎ (max_text < length (text_of l j))
      → saved l j room ≡ refusal 13 0 j.start (length (text_of l j))
  thirteen_saved w long = go saving
    where
      go : Saving → saved l j room ≡ refusal 13 0 j.start needed
      go (Saving.refused s m is) = absurd (let no : ◌≡◌ {A = ℕ} 0 1 = cc in omega arith)
      go (Saving.too_long _ _ is) = is
      go (Saving.whole _ r m is) = absurd (short_or_long long r m)

  -- 13 is a text that is longer than the lent bytes or than a job text may be
  pub thirteen : ((saved l j room).number ≡ 13)
      ↔ (WellFormed j × ((room < length (text_of l j)) ⊎ (max_text < length (text_of l j))))
  unfolding refusal
  thirteen = (λ e. (thirteen_is e).0, λ h. ap (λ (x : Summary). x.number) (thirteen_saved h.0 h.1))

  -- ---- saved

  pub saved_fits : WellFormed j → length (text_of l j) ≤ room → length (text_of l j) ≤ max_text
      → saved l j room ≡ answer j.start 0 0 0
  saved_fits w r m = go saving
    where
      go : Saving → saved l j room ≡ answer j.start 0 0 0
      go (Saving.refused s e is) = absurd (let no : ◌≡◌ {A = ℕ} 0 1 = cc in omega arith)
      go (Saving.too_long _ long is) = absurd (short_or_long long r m)
      go (Saving.whole _ _ _ is) = is

  pub saved_exactly : ((saved l j room).number ≡ 0)
      ↔ (WellFormed j × (length (text_of l j) ≤ room) × (length (text_of l j) ≤ max_text))
  unfolding refusal answer
  saved_exactly = (λ e. go e saving, λ h. ap (λ (x : Summary). x.number) (saved_fits h.0 h.1 h.2))
    where
      go : (saved l j room).number ≡ 0 → Saving → WellFormed j × (needed ≤ room) × (needed ≤ max_text)
      go e (Saving.refused s m is) = absurd (omega (arith, (malformed_number j s m).0, ap (λ (x : Summary). x.number) is))
      go e (Saving.too_long w long is) = absurd (omega (arith, ap (λ (x : Summary). x.number) is))
      go e (Saving.whole w r m is) = (w, r, m)

  -- ---- the lent bytes

  pub saved_zeros : ((saved l j room).number ≡ 0 → ⊥) → saved_bytes l j room ≡ replicate room 0
  unfolding saved_bytes is_saved
  saved_zeros h = rw (ne_eqb (saved l j room).number 0 h) (page_refused 0 room (text_of l j))

  pub saved_whole : (saved l j room).number ≡ 0 → saved_bytes l j room ≡ page room (text_of l j)
  unfolding saved_bytes is_saved page
  saved_whole h = rw (eq-eqb (saved l j room).number 0 h)
