-- How many regions are painted and where they stand, and the marks of painted regions as columns. Assumes nothing.
use Prim.Native.Nat.{ℕ, zero, suc, ◌+◌, ◌≤◌, ◌<◌}
use mathlib.Core.Path.{◌≡◌, refl, ap}
use mathlib.Core.Bool.{Bool}
use mathlib.Core.List.{List, [], ◌∷◌, map}
use native.Mathlib.Omega.{arith}
use lib.Ieee.{Float, nan}
use lib.ListN.{length, get_or, replicate, set}
use lib.Seq.{sets}
use Rattle.model.specs.declared.Outcome.{Outcome}
use Rattle.model.specs.declared.Rule.{Rule}
use Rattle.model.specs.declared.Test.{Test}
use Rattle.model.specs.Sheet.{Sheet}
use Rattle.model.specs.Run.{marks_from}
use Rattle.hits.specs.Hits.{hits_from}
use Rattle.hits.specs.Painted.{kind_by, colour_by, ppm_by, shape_by}
use Rattle.turns.specs.Step.{outcomes_from}
use Rattle.turns.specs.Emit.{mark_columns, put_mark, put_marks, hit_mark}

pub outcomes_long : (s : Sheet) (r : Rule) (t : Test) (rows cols flags : List ℕ) (i n : ℕ)
    → length (outcomes_from s r t rows cols flags i n) ≡ n
unfolding outcomes_from
outcomes_long s r t rows cols flags i zero = refl
outcomes_long s r t rows cols flags i (suc n) = ap suc (outcomes_long s r t rows cols flags (suc i) n)

pub hits_few : (i : ℕ) (os : List Outcome) → length (hits_from i os) ≤ length os
unfolding hits_from
hits_few i [] = omega arith
hits_few i (Outcome.Stopped ∷ os) = omega (arith, hits_few (suc i) os)
hits_few i (Outcome.Passed ∷ os) = omega (arith, hits_few (suc i) os)
hits_few i (Outcome.Unresolved ∷ os) = omega (arith, hits_few (suc i) os)
hits_few i (Outcome.Painted p ∷ os) = omega (arith, hits_few (suc i) os)

pub hits_marks : (rule i : ℕ) (os : List Outcome) → length (marks_from rule i os) ≡ length (hits_from i os)
unfolding marks_from hits_from
hits_marks rule i [] = refl
hits_marks rule i (Outcome.Stopped ∷ os) = hits_marks rule (suc i) os
hits_marks rule i (Outcome.Passed ∷ os) = hits_marks rule (suc i) os
hits_marks rule i (Outcome.Unresolved ∷ os) = hits_marks rule (suc i) os
hits_marks rule i (Outcome.Painted p ∷ os) = ap suc (hits_marks rule (suc i) os)

-- each is one of the regions from i on
pub hits_within : (i : ℕ) (os : List Outcome) (j : ℕ) → j < length (hits_from i os) → get_or (hits_from i os) j 0 < i + length os
unfolding hits_from
hits_within i [] j h = omega arith
hits_within i (Outcome.Stopped ∷ os) j h = omega (arith, hits_within (suc i) os j h)
hits_within i (Outcome.Passed ∷ os) j h = omega (arith, hits_within (suc i) os j h)
hits_within i (Outcome.Unresolved ∷ os) j h = omega (arith, hits_within (suc i) os j h)
hits_within i (Outcome.Painted p ∷ os) zero h = omega arith
hits_within i (Outcome.Painted p ∷ os) (suc j) h = omega (arith, hits_within (suc i) os j (omega arith))

-- each column by itself
pub put_hits : (t : Test) (imported : Bool) (values : List Float) (rule : ℕ) (a b c d e f : List ℕ) (n : ℕ) (hs : List ℕ)
    → put_marks (mark_columns a b c d e f) n (map (hit_mark t imported values rule) hs)
    ≡ mark_columns (sets a n hs) (sets b n (replicate (length hs) rule)) (sets c n (replicate (length hs) (kind_by t imported)))
    (sets d n (map (λ h. colour_by t imported (get_or values h nan)) hs)) (sets e n (map (λ h. ppm_by t (get_or values h nan)) hs))
    (sets f n (map (λ h. shape_by t (get_or values h nan)) hs))
unfolding put_marks put_mark
put_hits t imported values rule a b c d e f n [] = refl
put_hits t imported values rule a b c d e f n (h ∷ hs) =
    let x = get_or values h nan in
    put_hits t imported values rule (set a n h) (set b n rule) (set c n (kind_by t imported)) (set d n (colour_by t imported x))
    (set e n (ppm_by t x)) (set f n (shape_by t x)) (suc n) hs
