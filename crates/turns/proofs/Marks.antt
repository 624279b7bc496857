-- The marks of a rule, no more than one for each outcome, and marks in the columns: marks after marks, each column by itself, and marks in
-- columns that were cleared first. Assumes nothing.
use Prim.Native.Nat.{ℕ, zero, suc, ◌+◌, ◌-◌, ◌≤◌}
use mathlib.Core.Path.{◌≡◌, refl, sym, ap, ◌∙◌}
use mathlib.Core.List.{List, [], ◌∷◌, ◌++◌, map}
use native.Mathlib.Nat.{sub-zero, zero-sub, suc-sub-suc, zero-add, add-zero}
use native.Mathlib.Omega.{arith}
use lib.ListN.{length, drop, replicate, length-replicate, length-map}
use lib.Seq.{sets, sets-eq}
use Rattle.model.specs.declared.Outcome.{Outcome}
use Rattle.model.specs.Run.{Mark, marks_from}
use Rattle.model.specs.Columns.{column}
use Rattle.turns.specs.Emit.{MarkColumns, mark_columns, put_mark, put_marks}

-- ---- the marks of a rule

pub marks_few : (rule i : ℕ) (os : List Outcome) → length (marks_from rule i os) ≤ length os
unfolding marks_from
marks_few rule i [] = omega arith
marks_few rule i (Outcome.Stopped ∷ os) = omega (arith, marks_few rule (suc i) os)
marks_few rule i (Outcome.Passed ∷ os) = omega (arith, marks_few rule (suc i) os)
marks_few rule i (Outcome.Unresolved ∷ os) = omega (arith, marks_few rule (suc i) os)
marks_few rule i (Outcome.Painted p ∷ os) = omega (arith, marks_few rule (suc i) os)

-- ---- marks in the columns

pub put_marks_append : (c : MarkColumns) (n : ℕ) (xs ys : List Mark)
    → put_marks c n (xs ++ ys) ≡ put_marks (put_marks c n xs) (n + length xs) ys
unfolding put_marks
put_marks_append c n [] ys = ap (λ k. put_marks c k ys) (sym (add-zero n))
put_marks_append c n (m ∷ xs) ys =
    let onward : suc n + length xs ≡ n + suc (length xs) = omega arith in
    put_marks_append (put_mark c n m) (suc n) xs ys ∙ rw onward

-- each column by itself
pub put_marks_sets : (regions rules kinds colours ppms shapes : List ℕ) (n : ℕ) (ms : List Mark)
    → put_marks (mark_columns regions rules kinds colours ppms shapes) n ms
    ≡ mark_columns (sets regions n (map (λ (m : Mark). m.region) ms)) (sets rules n (map (λ (m : Mark). m.rule) ms))
    (sets kinds n (map (λ (m : Mark). m.paint.kind) ms)) (sets colours n (map (λ (m : Mark). m.paint.colour) ms))
    (sets ppms n (map (λ (m : Mark). m.paint.ppm) ms)) (sets shapes n (map (λ (m : Mark). m.paint.shape) ms))
unfolding put_marks put_mark
put_marks_sets regions rules kinds colours ppms shapes n [] = refl
put_marks_sets regions rules kinds colours ppms shapes n (m ∷ ms) = put_marks_sets _ _ _ _ _ _ (suc n) ms

drop_zeros : (k n : ℕ) → drop {A = ℕ} k (replicate n 0) ≡ replicate (n - k) 0
drop_zeros zero n = rw sub-zero
drop_zeros (suc k) zero = rw zero-sub
drop_zeros (suc k) (suc n) = drop_zeros k n ∙ rw suc-sub-suc

-- a field of each entry, from the front of zeros
sets_zeros : {A : Type 0} (n : ℕ) (field : A → ℕ) (entries : List A) → length entries ≤ n
    → sets (replicate n 0) 0 (map field entries) ≡ column n field entries
unfolding column
sets_zeros n field entries h =
    let fits : 0 + length (map field entries) ≤ length {A = ℕ} (replicate n 0) =
    omega (arith, length-map entries field, length-replicate {A = ℕ} n 0) in
    sets-eq (map field entries) (replicate n 0) 0 fits ∙ rw (zero-add, length-map, drop_zeros)

pub put_marks_zeros : (a b c d e f : ℕ) (ms : List Mark) → length ms ≤ a → length ms ≤ b → length ms ≤ c → length ms ≤ d → length ms ≤ e
    → length ms ≤ f
    → put_marks (mark_columns (replicate a 0) (replicate b 0) (replicate c 0) (replicate d 0) (replicate e 0) (replicate f 0)) 0 ms
    ≡ mark_columns (column a (λ (m : Mark). m.region) ms) (column b (λ (m : Mark). m.rule) ms) (column c (λ (m : Mark). m.paint.kind) ms)
    (column d (λ (m : Mark). m.paint.colour) ms) (column e (λ (m : Mark). m.paint.ppm) ms)
    (column f (λ (m : Mark). m.paint.shape) ms)
put_marks_zeros a b c d e f ms ha hb hc hd he hf =
    put_marks_sets (replicate a 0) (replicate b 0) (replicate c 0) (replicate d 0) (replicate e 0) (replicate f 0) 0 ms
    ∙ (λ i. record {
      regions = sets_zeros a (λ (m : Mark). m.region) ms ha i;
      rules = sets_zeros b (λ (m : Mark). m.rule) ms hb i;
      kinds = sets_zeros c (λ (m : Mark). m.paint.kind) ms hc i;
      colours = sets_zeros d (λ (m : Mark). m.paint.colour) ms hd i;
      ppms = sets_zeros e (λ (m : Mark). m.paint.ppm) ms he i;
      shapes = sets_zeros f (λ (m : Mark). m.paint.shape) ms hf i;
    })
