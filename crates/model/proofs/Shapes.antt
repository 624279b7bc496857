-- The shapes of ratios and marks, as computed examples. Which shape is due was worked out by hand from document 02. F is the largest finite
-- number. Assumes nothing.
use Prim.Native.Nat.{ℕ}
use mathlib.Core.Path.{◌≡◌, refl}
use mathlib.Core.Bool.{false}
use mathlib.Core.List.{List, [], ◌∷◌, map}
use lib.ListN.{replicate}
use Rattle.model.specs.declared.CfRule.{CfRule}
use Rattle.model.specs.Ratio.{normalized, shape_number}
use Rattle.model.specs.Job.{Job}
use Rattle.model.proofs.Computing.{leaves, jobs}
use Rattle.model.proofs.Samples.{samples, whole, float, largest, lowest, infinity, not_a_number, down, down_from, regions, rows}
use Rattle.model.proofs.Samples.{red, green, blue, rule, imported, literal, equal_to, equals, duplicates, job_of, mark_shapes}

-- ---- of a ratio

-- ppm and shape of a ratio, its arguments by their bits
abbrev placed : ℕ → ℕ → ℕ → List ℕ
placed value minimum maximum =
    let n = normalized (float value) (float minimum) (float maximum) in
    n.ppm ∷ shape_number n.shape ∷ []

-- P1 is plain, P2 flat, P4 too wide
worked : placed (whole 2) (whole 1) (whole 3) ∷ placed (whole 5) (whole 5) (whole 5) ∷ placed largest lowest largest ∷ []
    ≡ (500_000 ∷ 0 ∷ []) ∷ (1_000_000 ∷ 1 ∷ []) ∷ (0 ∷ 2 ∷ []) ∷ []
unfolding leaves samples
worked = refl

-- ends in falling order are flat, and so are -0 and 0 in either order; flat is asked first, also of F and -F, whose difference overflows
flat_first : placed (whole 2) (whole 3) (whole 1) ∷ placed 0 0x8000000000000000 0 ∷ placed 0 0 0x8000000000000000 ∷ placed 0 largest lowest ∷ []
    ≡ (1_000_000 ∷ 1 ∷ []) ∷ (1_000_000 ∷ 1 ∷ []) ∷ (1_000_000 ∷ 1 ∷ []) ∷ (1_000_000 ∷ 1 ∷ []) ∷ []
unfolding leaves samples
flat_first = refl

-- an end that is not-a-number or infinite is too wide, unless the ends are flat
no_span : placed (whole 1) not_a_number (whole 5) ∷ placed (whole 9) (whole 1) not_a_number ∷ placed (whole 9) (whole 1) infinity
    ∷ placed (whole 9) infinity infinity ∷ []
    ≡ (0 ∷ 2 ∷ []) ∷ (0 ∷ 2 ∷ []) ∷ (0 ∷ 2 ∷ []) ∷ (1_000_000 ∷ 1 ∷ []) ∷ []
unfolding leaves samples
no_span = refl

-- the value has no part in it
value_has_no_part : map (λ value. placed value (whole 1) (whole 3)) (not_a_number ∷ infinity ∷ 0 ∷ [])
    ≡ (0 ∷ 0 ∷ []) ∷ (1_000_000 ∷ 0 ∷ []) ∷ (0 ∷ 0 ∷ []) ∷ []
unfolding leaves samples
value_has_no_part = refl

-- the smallest span, and the largest that is finite: from 0 to F
spans : placed 1 0 1 ∷ placed largest 0 largest ∷ [] ≡ (1_000_000 ∷ 0 ∷ []) ∷ (1_000_000 ∷ 0 ∷ []) ∷ []
unfolding leaves samples
spans = refl

-- ---- of the marks of a rule

-- numbers by their bits down the first column, each of them a region, under one rule
abbrev under : CfRule → List ℕ → Job
under kind bits = job_of (down_from 0 bits) (regions 3) (rule (rows 3) kind ∷ []) 0

abbrev scale3 : CfRule
scale3 = CfRule.ColorScale3 red green blue

-- (1, 1, 2): the least is the midpoint, so that the lower half is flat and the upper one is not
scale_of_three : mark_shapes (under scale3 (whole 1 ∷ whole 1 ∷ whole 2 ∷ [])) ≡ 1 ∷ 1 ∷ 3 ∷ []
unfolding jobs samples
scale_of_three = refl

-- (-F, -F, F): the half that is used is asked, and not the whole span
half_used : mark_shapes (under scale3 (lowest ∷ lowest ∷ largest ∷ [])) ≡ 1 ∷ 1 ∷ 5 ∷ []
unfolding jobs samples
half_used = refl

-- (-F, F, F): too wide in the lower half; the greatest is the midpoint, and belongs to it
lower_half_too_wide : mark_shapes (under scale3 (lowest ∷ largest ∷ largest ∷ [])) ≡ 2 ∷ 2 ∷ 2 ∷ []
unfolding jobs samples
lower_half_too_wide = refl

-- (-F, 0, F): no half overflows, though the whole span does, which a scale of two and a bar have
halves_plain : map (λ kind. mark_shapes (under kind (lowest ∷ 0 ∷ largest ∷ []))) (scale3 ∷ CfRule.ColorScale2 red blue ∷ CfRule.DataBar green ∷ [])
    ≡ (0 ∷ 0 ∷ 3 ∷ []) ∷ (2 ∷ 2 ∷ 2 ∷ []) ∷ (2 ∷ 2 ∷ 2 ∷ []) ∷ []
unfolding jobs samples
halves_plain = refl

-- equal values are flat, with every rule that has a shape; a plain span has none but the upper half's 3
equal_values : map (λ kind. mark_shapes (under kind (whole 5 ∷ whole 5 ∷ whole 5 ∷ []))) (scale3 ∷ CfRule.ColorScale2 red blue ∷ CfRule.DataBar green ∷ [])
    ≡ (1 ∷ 1 ∷ 1 ∷ []) ∷ (1 ∷ 1 ∷ 1 ∷ []) ∷ (1 ∷ 1 ∷ 1 ∷ []) ∷ []
unfolding jobs samples
equal_values = refl

-- an imported style keeps the shape
imported_keeps : map (λ kind. mark_shapes (job_of (down (1 ∷ 1 ∷ 2 ∷ [])) (regions 3) (imported (rule (rows 3) kind) ∷ []) 0))
    (scale3 ∷ CfRule.ColorScale2 red blue ∷ CfRule.DataBar green ∷ [])
    ≡ (1 ∷ 1 ∷ 3 ∷ []) ∷ (0 ∷ 0 ∷ 0 ∷ []) ∷ (0 ∷ 0 ∷ 0 ∷ []) ∷ []
unfolding jobs samples
imported_keeps = refl

-- other rules have none
other_rules : map (λ kind. mark_shapes (under kind (whole 5 ∷ whole 5 ∷ whole 5 ∷ [])))
    (equal_to (literal 5) ∷ CfRule.TopBottom 1 false false red ∷ duplicates ∷ equals (literal 1) (literal 1) ∷ [])
    ≡ replicate 4 (0 ∷ 0 ∷ 0 ∷ [])
unfolding jobs samples
other_rules = refl
