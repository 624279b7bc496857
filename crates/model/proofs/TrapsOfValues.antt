-- Traps for the porter in operands, references, averages, ranks and duplicates, as computed examples.
-- `tally` is count, marks, deferred and simplified. Assumes nothing.
use Rattle.std.specs.Prelude.{Some, None}
use Prim.Native.Nat.{ℕ}
use mathlib.Core.Path.{◌≡◌, refl}
use mathlib.Core.Bool.{Bool, true, false}
use mathlib.Core.List.{List, [], ◌∷◌, ◌++◌, map}
use lib.ListN.{replicate}
use Rattle.model.specs.declared.Range.{Range}
use Rattle.model.specs.Options.{SheetName}
use Rattle.model.specs.declared.ConditionalOperand.{ConditionalOperand}
use Rattle.model.specs.declared.DvOp.{DvOp}
use Rattle.model.specs.declared.CfRule.{CfRule}
use Rattle.model.specs.Job.{Job}
use Rattle.model.proofs.Computing.{jobs}
use Rattle.model.proofs.Samples.{samples, CellRow, whole, float, largest, lowest, infinity, not_a_number, span, cell, number, text}
use Rattle.model.proofs.Samples.{bool, error, down_from, down, regions, range, rows, red, green, rule, literal, relative, absolute}
use Rattle.model.proofs.Samples.{equal_to, equals, above, duplicates, all_of, job_in, job_of, tally, mark_regions}

-- whole numbers down the first column, a region for each of three rows, and a rule over them
abbrev over : List ℕ → CfRule → Job
over ns kind = job_of (down ns) (regions 3) (rule (rows 3) kind ∷ []) 0

-- one cell, its region, and a rule over a range
abbrev alone : Range → CfRule → Job
alone r kind = job_of (down (1 ∷ [])) (regions 1) (rule r kind ∷ []) 0

-- ---- operands

-- infinity and not-a-number as literals count as unread, and an unread operand defers uncharged
unread_defers : map (λ operand. tally (over (1 ∷ 2 ∷ []) (equal_to operand)))
    (ConditionalOperand.Literal (float infinity) ∷ ConditionalOperand.Literal (float not_a_number) ∷ ConditionalOperand.Unread ∷ [])
    ≡ replicate 3 (0 ∷ 0 ∷ 1 ∷ 0 ∷ [])
unfolding jobs samples
unread_defers = refl

-- the same for the second operand of Between, and for either side of an expression
unread_second_defers : map (λ kind. tally (over (1 ∷ 2 ∷ []) kind))
    (CfRule.CellIs DvOp.Between (literal 1) ConditionalOperand.Unread red ∷ equals ConditionalOperand.Unread (literal 1)
    ∷ equals (literal 1) ConditionalOperand.Unread ∷ [])
    ≡ replicate 3 (0 ∷ 0 ∷ 1 ∷ 0 ∷ [])
unfolding jobs samples
unread_second_defers = refl

-- an inverted range defers uncharged, by rows or by columns, whatever the rule; a bar is then not simplified
inverted_defers : map (λ r. tally (alone r (CfRule.DataBar green))) (range 1 0 0 0 ∷ range 0 1 0 0 ∷ []) ≡ replicate 2 (0 ∷ 0 ∷ 1 ∷ 0 ∷ [])
unfolding jobs samples
inverted_defers = refl

-- Between includes both ends, and ends in falling order are not exchanged
between_ends : map (λ kind. mark_regions (over (1 ∷ 2 ∷ 3 ∷ []) kind))
    (CfRule.CellIs DvOp.Between (literal 1) (literal 2) red ∷ CfRule.CellIs DvOp.Between (literal 2) (literal 1) red
    ∷ CfRule.CellIs DvOp.NotBetween (literal 1) (literal 2) red ∷ CfRule.CellIs DvOp.NotBetween (literal 2) (literal 1) red ∷ [])
    ≡ (0 ∷ 1 ∷ []) ∷ [] ∷ (2 ∷ []) ∷ (0 ∷ 1 ∷ 2 ∷ []) ∷ []
unfolding jobs samples
between_ends = refl

-- ---- references

-- a name by its place in the pool
abbrev named : ℕ → ℕ → SheetName
named at len = Some (span at len)

-- an absolute axis off the grid is no refusal: there is no cell, and the rule defers at its first region
absolute_off_grid : map (λ operand. tally (over (1 ∷ 2 ∷ []) (equal_to operand)))
    (absolute None 4_294_967_295 0 ∷ absolute None 0 65_535 ∷ []) ≡ replicate 2 (1 ∷ 0 ∷ 1 ∷ 0 ∷ [])
unfolding jobs samples
absolute_off_grid = refl

-- an absolute reference means one cell from every region
absolute_stays : mark_regions (over (1 ∷ 1 ∷ 2 ∷ []) (equal_to (absolute None 0 0))) ≡ 0 ∷ 1 ∷ []
unfolding jobs samples
absolute_stays = refl

-- a relative one moves with the region, from the range's first cell: 1 below is compared with 1 above, and then 2 with 1
relative_moves : mark_regions (
    job_of (down (1 ∷ 1 ∷ 2 ∷ [])) (regions 3) (rule (range 1 0 2 0) (equal_to (relative None 0 0)) ∷ []) 0) ≡ 1 ∷ []
unfolding jobs samples
relative_moves = refl

-- past the grid's last row there is no cell: region 0 means that row, and region 1 the one after it
relative_past_grid : tally (job_of (down (1 ∷ 1 ∷ []) ++ number 1_048_575 0 (whole 1) ∷ []) (regions 3)
    (rule (rows 3) (equal_to (relative None 1_048_575 0)) ∷ []) 0) ≡ 2 ∷ 0 ∷ 1 ∷ 0 ∷ []
unfolding jobs samples
relative_past_grid = refl

-- the sheet is `S`: `S` and `s` mean it, `Ab` and the empty name do not, and a reference without a name does
sheet_names : map (λ name. tally (over (1 ∷ []) (equal_to (absolute name 0 0))))
    (named 0 1 ∷ named 1 1 ∷ None ∷ named 2 2 ∷ named 0 0 ∷ [])
    ≡ replicate 3 (3 ∷ 1 ∷ 0 ∷ 0 ∷ []) ++ replicate 2 (1 ∷ 0 ∷ 1 ∷ 0 ∷ [])
unfolding jobs samples
sheet_names = refl

-- the empty name means a sheet of the empty name
empty_sheet_name : tally (job_in [] (span 0 0) (down (1 ∷ [])) (regions 1)
    (all_of (rule (rows 1) (equal_to (absolute (named 0 0) 0 0)) ∷ [])) 0) ≡ 1 ∷ 1 ∷ 0 ∷ 0 ∷ []
unfolding jobs samples
empty_sheet_name = refl

-- ---- averages and ranks

-- bit patterns down the first column, and a rule over them
abbrev of_bits : List ℕ → CfRule → Job
of_bits ns kind = job_of (down_from 0 ns) (regions 3) (rule (rows 3) kind ∷ []) 0

-- the sum goes in sheet order: it overflows at the second cell, though the whole would be finite; 3 cells are charged and no region
sum_overflows : tally (of_bits (largest ∷ largest ∷ lowest ∷ []) above) ≡ 3 ∷ 0 ∷ 1 ∷ 0 ∷ []
unfolding jobs samples
sum_overflows = refl

-- the same values in another order have a finite sum at each step
sum_in_another_order : mark_regions (of_bits (largest ∷ lowest ∷ largest ∷ []) above) ≡ 0 ∷ 2 ∷ []
unfolding jobs samples
sum_in_another_order = refl

-- a value equal to the average is neither above nor below
average_itself : map (λ below. mark_regions (over (1 ∷ 2 ∷ 3 ∷ []) (CfRule.AboveAverage below red))) (false ∷ true ∷ [])
    ≡ (2 ∷ []) ∷ (0 ∷ []) ∷ []
unfolding jobs samples
average_itself = refl

-- sum and quotient are rounded: 0.1 three times is below its average
average_rounded : mark_regions (of_bits (replicate 3 0x3fb999999999999a) (CfRule.AboveAverage true red)) ≡ 0 ∷ 1 ∷ 2 ∷ []
unfolding jobs samples
average_rounded = refl

abbrev rank : ℕ → Bool → Bool → CfRule
rank number bottom percent = CfRule.TopBottom number bottom percent red

-- all ties at the threshold, from the top and from the bottom
rank_ties : map (λ bottom. mark_regions (over (1 ∷ 2 ∷ 2 ∷ []) (rank 1 bottom false))) (false ∷ true ∷ []) ≡ (1 ∷ 2 ∷ []) ∷ (0 ∷ []) ∷ []
unfolding jobs samples
rank_ties = refl

-- percent rounds up and stops at 100, and a rank above the number of values takes all
rank_shares : map (λ kind. mark_regions (over (1 ∷ 2 ∷ 3 ∷ []) kind))
    (rank 34 false true ∷ rank 1 false true ∷ rank 4_294_967_295 false true ∷ rank 9 false false ∷ [])
    ≡ (1 ∷ 2 ∷ []) ∷ (2 ∷ []) ∷ (0 ∷ 1 ∷ 2 ∷ []) ∷ (0 ∷ 1 ∷ 2 ∷ []) ∷ []
unfolding jobs samples
rank_shares = refl

-- ---- duplicates

-- three cells under a duplicate rule
abbrev same : List CellRow → Job
same cells = job_of cells (regions 3) (rule (rows 3) duplicates ∷ []) 0

-- a coordinate without a cell defers behind the charge of the area
blank_defers : tally (over (1 ∷ 1 ∷ []) duplicates) ≡ 3 ∷ 0 ∷ 1 ∷ 0 ∷ []
unfolding jobs samples
blank_defers = refl

-- so do an error, a text with `*`, a text that is not ASCII, infinity, and a number within 65 wraps
no_key_defers : map (λ c. tally (same (number 0 0 0 ∷ number 1 0 0 ∷ c ∷ [])))
    (error 2 ∷ text 2 7 1 ∷ text 2 8 2 ∷ number 2 0 infinity ∷ cell 2 0 1 65 0 0 0 ∷ []) ≡ replicate 5 (3 ∷ 0 ∷ 1 ∷ 0 ∷ [])
unfolding jobs samples
no_key_defers = refl

-- the whole grid is charged at once, 2^34 coordinates, and defers
whole_grid : tally (alone (range 0 0 1_048_575 16_383) duplicates) ≡ 17_179_869_184 ∷ 0 ∷ 1 ∷ 0 ∷ []
unfolding jobs samples
whole_grid = refl

-- one row or column more is beyond the grid, and defers uncharged; a unique rule is no exception
beyond_grid : map (λ r. tally (alone r (CfRule.DuplicateValues true red))) (range 0 0 1_048_576 0 ∷ range 0 0 0 16_384 ∷ [])
    ≡ replicate 2 (0 ∷ 0 ∷ 1 ∷ 0 ∷ [])
unfolding jobs samples
beyond_grid = refl

-- `Ab` and `aB` are the same, -0 and 0 too; text `1`, number 1 and true are not
alike : map (λ cs. mark_regions (same cs))
    ((text 0 2 2 ∷ text 1 4 2 ∷ text 2 6 1 ∷ []) ∷ (number 0 0 0x8000000000000000 ∷ number 1 0 0 ∷ number 2 0 (whole 1) ∷ [])
    ∷ (text 0 6 1 ∷ number 1 0 (whole 1) ∷ bool 2 1 ∷ []) ∷ []) ≡ (0 ∷ 1 ∷ []) ∷ (0 ∷ 1 ∷ []) ∷ [] ∷ []
unfolding jobs samples
alike = refl

-- only cells of the range count: the same value outside of it does not
outside_does_not_count : mark_regions (
    job_of (down (1 ∷ 2 ∷ 1 ∷ [])) (regions 3) (rule (rows 2) (CfRule.DuplicateValues true red) ∷ []) 0) ≡ 0 ∷ 1 ∷ []
unfolding jobs samples
outside_does_not_count = refl
