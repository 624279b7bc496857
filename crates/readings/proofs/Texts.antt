-- A part of the pool, its ends held to the pool's, is the text there. Assumes nothing.
use Prim.Native.Nat.{ℕ, zero, suc, ◌+◌, ◌-◌, min}
use mathlib.Core.Path.{◌≡◌, sym, ap, ◌∙◌}
use mathlib.Core.List.{List, [], ◌∷◌}
use native.Mathlib.Nat.{zero-min, suc-min-suc}
use native.Mathlib.Omega.{arith}
use lib.ListN.{length, take, drop, length-drop}
use lib.Seq.{take-nil, drop-nil}
use Rattle.model.specs.declared.Span.{Span}
use Rattle.model.specs.Sheet.{text_at}

take_held : (k : ℕ) (xs : List ℕ) → take (min k (length xs)) xs ≡ take k xs
take_held k [] = take-nil (min k 0) ∙ sym (take-nil k)
take_held zero (x ∷ xs) = rw zero-min
take_held (suc k) (x ∷ xs) = rw suc-min-suc (ap (λ (r : List ℕ). x ∷ r) (take_held k xs))

drop_held : (k : ℕ) (xs : List ℕ) → drop (min k (length xs)) xs ≡ drop k xs
drop_held k [] = drop-nil (min k 0) ∙ sym (drop-nil k)
drop_held zero (x ∷ xs) = rw zero-min
drop_held (suc k) (x ∷ xs) = rw suc-min-suc (drop_held k xs)

pub part_is : (pool : List ℕ) (s : Span) (from to : ℕ) → from ≡ min s.at (length pool) → to ≡ min (from + s.len) (length pool)
    → take (to - from) (drop from pool) ≡ text_at pool s
unfolding text_at
part_is pool s from to p q =
    let d : drop from pool ≡ drop s.at pool = ap (λ (k : ℕ). drop k pool) p ∙ drop_held s.at pool in
    let l : length (drop s.at pool) ≡ length pool - s.at = length-drop s.at pool in
    let n : to - from ≡ min s.len (length (drop s.at pool)) = omega arith in
    ap (take (to - from)) d ∙ ap (λ (k : ℕ). take k (drop s.at pool)) n ∙ take_held s.len (drop s.at pool)
