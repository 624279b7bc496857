-- The line feeds of some bytes, counted by the library's words, and the line of a place. Assumes nothing.
use Prim.Native.Nat.{ℕ, suc, ◌+◌, min}
use mathlib.Core.Path.{◌≡◌, refl, sym, ap, ◌∙◌}
use mathlib.Core.Bool.{cond}
use mathlib.Core.List.{List, ◌∷◌}
use native.Mathlib.Omega.{arith}
use lib.Dec.{eqb}
use lib.ListN.{length, take}
use Rattle.std.specs.List.{count_by}
use Rattle.std.proofs.lemmas.List.{take_min}
use Rattle.std.proofs.lemmas.List.Recursion.{is_count_by}
use Rattle.grammar.specs.Gram.{line_feeds, line_of}

feeds_counted : (xs : List ℕ) → line_feeds xs ≡ count_by (λ b. eqb b 10) xs
unfolding line_feeds
feeds_counted xs = is_count_by line_feeds (λ b. eqb b 10) refl next xs
  where
    next : (x : ℕ) (xs : List ℕ) → line_feeds (x ∷ xs) ≡ cond (eqb x 10) (1 + line_feeds xs) (line_feeds xs)
    next x xs = let z : 1 + line_feeds xs ≡ suc (line_feeds xs) = omega arith in rw z

-- the last line goes on past the text
pub line_counted : (s : List ℕ) (at : ℕ) {n : ℕ} → n ≡ count_by (λ b. eqb b 10) (take (min at (length s)) s) → n + 1 ≡ line_of s at
unfolding line_of
line_counted s at {n} e =
    let h : n ≡ line_feeds (take at s) = e ∙ (ap (λ (l : List ℕ). count_by (λ b. eqb b 10) l) (take_min at s) ∙ sym (feeds_counted (take at s))) in
    omega arith
