-- Traps for the porter in the small functions, as computed examples: rounding, ratio, channel, midpoint, axis and split. Assumes nothing.
use Prim.Native.Nat.{ℕ, ◌-◌, ◌^◌}
use mathlib.Core.Path.{◌≡◌, refl}
use mathlib.Core.Bool.{true, false}
use mathlib.Core.List.{[], ◌∷◌, ◌++◌, map}
use lib.Ieee.{binary64, to_bits}
use Rattle.model.specs.declared.CfRule.{CfRule}
use Rattle.model.specs.Ratio.{rounded, ratio, channel, bar_cells}
use Rattle.model.specs.Values.{midpoint, selected}
use Rattle.model.specs.Sheet.{max_row, max_col}
use Rattle.model.specs.References.{offset_axis}
use Rattle.model.specs.WorkedValues.{on_axis, parts}
use Rattle.model.specs.Job.{Job}
use Rattle.model.proofs.Computing.{leaves, jobs, tables}
use Rattle.model.proofs.Samples.{samples, whole, float, largest, lowest, infinity, not_a_number, down_from, regions, rows}
use Rattle.model.proofs.Samples.{red, green, blue, rule, job_of, mark_colours}

-- ---- rounding, halves away from zero

-- 0.49999999999999994, 0.5, 1.5 and 2.5: adding a half in floats would round the first up to 1
halves : map (λ bits. rounded (float bits)) (0x3fdfffffffffffff ∷ 0x3fe0000000000000 ∷ 0x3ff8000000000000 ∷ 0x4004000000000000 ∷ [])
    ≡ 0 ∷ 1 ∷ 2 ∷ 3 ∷ []
unfolding leaves samples
halves = refl

-- not-a-number, -1, infinity and 2^32 are held to what a u32 can be
held_to_u32 : map (λ bits. rounded (float bits)) (not_a_number ∷ 0xbff0000000000000 ∷ infinity ∷ whole (2 ^ 32) ∷ [])
    ≡ 0 ∷ 0 ∷ 4_294_967_295 ∷ 4_294_967_295 ∷ []
unfolding leaves samples
held_to_u32 = refl

-- ---- ratio

abbrev ratio_of : ℕ → ℕ → ℕ → ℕ
ratio_of value minimum maximum = ratio (float value) (float minimum) (float maximum)

-- flat ends are asked before not-a-number
flat_before_not_a_number : ratio_of not_a_number (whole 5) (whole 5) ≡ 1_000_000
unfolding leaves samples
flat_before_not_a_number = refl

-- a not-a-number at an end is not flat, and gives 0; so does the difference of the ends that overflows
not_a_number_end : ratio_of (whole 1) not_a_number (whole 5) ∷ ratio_of (whole 9) (whole 1) not_a_number ∷ ratio_of 0 lowest largest ∷ []
    ≡ 0 ∷ 0 ∷ 0 ∷ []
unfolding leaves samples
not_a_number_end = refl

-- held to 0..1 from below and above; ends in falling order are flat
held_to_unit : ratio_of 0 (whole 1) (whole 3) ∷ ratio_of (whole 9) (whole 1) (whole 3) ∷ ratio_of (whole 2) (whole 3) (whole 1) ∷ []
    ≡ 0 ∷ 1_000_000 ∷ 1_000_000 ∷ []
unfolding leaves samples
held_to_unit = refl

-- each operation is rounded once: the exact ratio of 41 in 640 is 64,062.5, which would round up
rounded_once : ratio_of (whole 41) 0 (whole 640) ≡ 64_062
unfolding leaves samples
rounded_once = refl

-- ---- channel and bar cells

-- with a ratio above 1,000,000 the channel is held at either end, also where the quotient is below 0
channel_held : channel 0 255 (2 ^ 32 - 1) ∷ channel 255 0 (2 ^ 32 - 1) ∷ channel 9 9 (2 ^ 32 - 1) ∷ [] ≡ 255 ∷ 0 ∷ 9 ∷ []
unfolding leaves samples
channel_held = refl

-- forty cells, cut down; none at 0 ppm alone
bar_cells_lem : map bar_cells (0 ∷ 1 ∷ 24_999 ∷ 25_000 ∷ 49_999 ∷ 50_000 ∷ 999_999 ∷ 1_000_000 ∷ (2 ^ 32 - 1) ∷ [])
    ≡ 0 ∷ 1 ∷ 1 ∷ 1 ∷ 1 ∷ 2 ∷ 39 ∷ 40 ∷ 171_798 ∷ []
unfolding leaves samples
bar_cells_lem = refl

-- ---- midpoint and selection

-- Halves of subnormal numbers are rounded, so that the midpoint may lie outside of the values: two of 3 × 2^-1074 have 4 × 2^-1074,
-- two of -3 × 2^-1074 have -4 × 2^-1074
midpoint_outside : map (λ bits. to_bits binary64 (midpoint (float bits ∷ float bits ∷ []))) (3 ∷ 0x8000000000000003 ∷ [])
    ≡ 4 ∷ 0x8000000000000004 ∷ []
unfolding leaves samples
midpoint_outside = refl

-- two cells of these bits under a scale of red, green and blue
abbrev twice : ℕ → Job
twice bits = job_of (down_from 0 (bits ∷ bits ∷ [])) (regions 2) (rule (rows 2) (CfRule.ColorScale3 red green blue) ∷ []) 0

-- below the midpoint they take the first colour, above it the third
scale_outside : map (λ bits. mark_colours (twice bits)) (3 ∷ 0x8000000000000003 ∷ [])
    ≡ (0xff0000 ∷ 0xff0000 ∷ []) ∷ (0x0000ff ∷ 0x0000ff ∷ []) ∷ []
unfolding jobs samples
scale_outside = refl

-- the midpoint of the two largest numbers does not overflow, and one of an odd number of values is the middle one
midpoint_large : map (λ xs. to_bits binary64 (midpoint xs)) ((float largest ∷ float largest ∷ []) ∷ (float 1 ∷ float 2 ∷ float 9 ∷ []) ∷ [])
    ≡ largest ∷ 2 ∷ []
unfolding leaves samples
midpoint_large = refl

-- at least 1 and at most n, and of none none
selection : selected true 1 1 ∷ selected true 100 7 ∷ selected false 9 7 ∷ selected true 50 0 ∷ [] ≡ 1 ∷ 7 ∷ 7 ∷ 0 ∷ []
unfolding leaves samples
selection = refl

-- ---- axis

-- 1 and the value, or 0: the grid's last row and column are accepted, the next are not, and 0 is
axis_ends : on_axis (offset_axis 1_048_575 5 5 max_row) ++ on_axis (offset_axis 1_048_575 1 0 max_row)
    ++ on_axis (offset_axis 16_384 0 1 max_col) ++ on_axis (offset_axis 16_384 0 0 max_col) ++ on_axis (offset_axis 3 4 7 max_row)
    ≡ 1 ∷ 1_048_575 ∷ 0 ∷ 1 ∷ 16_383 ∷ 0 ∷ 1 ∷ 0 ∷ []
unfolding tables
axis_ends = refl

-- ---- split: position, width and right part

-- `= A1<2`: no blank is dropped behind the `=`, so that the position is 3
blank_behind_equals : parts (61 ∷ 32 ∷ 65 ∷ 49 ∷ 60 ∷ 50 ∷ []) ≡ 3 ∷ 1 ∷ 50 ∷ []
unfolding tables
blank_behind_equals = refl

-- `==2`: only one `=` is dropped, and the other is the operator
second_equals : parts (61 ∷ 61 ∷ 50 ∷ []) ≡ 0 ∷ 1 ∷ 50 ∷ []
unfolding tables
second_equals = refl

-- ` =A<>1` with a tab at each end: the ends are dropped ahead of the `=`, and `<>` is one operator
blanks_at_ends : parts (9 ∷ 32 ∷ 61 ∷ 65 ∷ 60 ∷ 62 ∷ 49 ∷ 9 ∷ []) ≡ 1 ∷ 2 ∷ 49 ∷ []
unfolding tables
blanks_at_ends = refl

-- `A=<1`: the first operator wins, and `=<` is none
first_operator : parts (65 ∷ 61 ∷ 60 ∷ 49 ∷ []) ≡ 1 ∷ 1 ∷ 60 ∷ 49 ∷ []
unfolding tables
first_operator = refl

-- `"<"`: double quotes have no meaning
double_quotes : parts (34 ∷ 60 ∷ 34 ∷ []) ≡ 1 ∷ 1 ∷ 34 ∷ []
unfolding tables
double_quotes = refl

-- `'A<1`, `A1` and nothing: no operator outside of quotes, and no right part
no_operator : map parts ((39 ∷ 65 ∷ 60 ∷ 49 ∷ []) ∷ (65 ∷ 49 ∷ []) ∷ [] ∷ []) ≡ [] ∷ [] ∷ [] ∷ []
unfolding tables
no_operator = refl

-- an operator at the end has an empty right part
empty_right_part : parts (65 ∷ 62 ∷ 61 ∷ []) ≡ 1 ∷ 2 ∷ []
unfolding tables
empty_right_part = refl
