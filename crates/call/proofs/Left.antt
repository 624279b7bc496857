-- A loop over a list that takes one element a turn: what the elements left make of the columns so far is what all of them make of the
-- columns at first. Assumes nothing.
use Prim.Native.Nat.{ℕ, ◌+◌, ◌≤◌, ◌<◌}
use mathlib.Core.Path.{◌≡◌, refl, sym, ap, ◌∙◌}
use mathlib.Core.List.{List, [], ◌∷◌}
use native.Mathlib.Numerals.{add-one}
use lib.ListN.{length, get_or, drop, drop_of_length-le}
use lib.Seq.{drop-cons}

-- f of what is left from k on and the columns now is f of all and the columns at first
pub record Left {A S : Type 0} (f : ℕ → List A → S → S) (xs : List A) (first now : S) (k : ℕ) : Type 0 where
  pub left : f k (drop k xs) now ≡ f 0 xs first

module _ {A S : Type 0} {f : ℕ → List A → S → S} {xs : List A} {first : S} where
  pub left_begun : Left f xs first first 0
  left_begun = record { left = refl }

  module _ {now : S} {k : ℕ} (v : Left f xs first now k) where
    pub left_turn : {next : S} (d : A) → k < length xs
        → f k (get_or xs k d ∷ drop (k + 1) xs) now ≡ f (k + 1) (drop (k + 1) xs) next → Left f xs first next (k + 1)
    left_turn d h e =
        let one : drop k xs ≡ get_or xs k d ∷ drop (k + 1) xs = rw (add-one, drop-cons xs k d) in
        record { left = sym e ∙ ap (λ l. f k l now) (sym one) ∙ v.left }

    pub left_ended : length xs ≤ k → f k [] now ≡ now → now ≡ f 0 xs first
    left_ended h e = sym e ∙ ap (λ l. f k l now) (sym (drop_of_length-le xs h)) ∙ v.left

    -- what no element changes
    pub left_same : {L : Type 0} (long : S → L) → ((j : ℕ) (ys : List A) (s : S) → long (f j ys s) ≡ long s) → long now ≡ long first
    left_same long e = sym (e k (drop k xs) now) ∙ ap long v.left ∙ e 0 xs first
