-- The refusals 1 to 6 of document 01 as computed examples: jobs that are turned back ahead of any charge, with place, count S = 5 and
-- actual in full, the neighbours that are not, and which of two refusals comes first. Assumes nothing.
use Rattle.std.specs.Prelude.{Some}
use Prim.Native.Nat.{ℕ, ◌-◌, ◌^◌}
use mathlib.Core.Path.{◌≡◌, refl}
use mathlib.Core.Bool.{false}
use mathlib.Core.List.{List, [], ◌∷◌, map}
use lib.ListN.{replicate}
use Rattle.model.specs.declared.CellCoordinate.{CellCoordinate}
use Rattle.model.specs.declared.ConditionalOperand.{ConditionalOperand}
use Rattle.model.specs.declared.DvOp.{DvOp}
use Rattle.model.specs.declared.CfRule.{CfRule}
use Rattle.model.specs.declared.Rule.{Rule}
use Rattle.model.specs.Answer.{Result, refusal, refused}
use Rattle.model.specs.Job.{Job, result, too_many}
use Rattle.model.proofs.Computing.{jobs}
use Rattle.model.proofs.Samples.{samples, CellRow, span, sample_pool, cell, number, text, bool, error, down, at, regions, range}
use Rattle.model.proofs.Samples.{rows, rule, red, green, relative, literal, equal_to, equals, all_of, job_in, job_of, ample}

-- a job under a limit of 100, with room for everything
abbrev decided_of : Job → Result
decided_of j = result j 100 ample

abbrev number_of : Job → ℕ
number_of j = (decided_of j).summary.number

-- ---- 1: lengths differ

-- columns of these lengths (row, col, kind, wraps, num, at, len, and the regions' row and col), too many rules, and S = 5
abbrev columns : ℕ → ℕ → ℕ → ℕ → ℕ → ℕ → ℕ → ℕ → ℕ → Job
columns row col kind wraps num at len regionRow region_col =
    record {
      cells = record {
        rows = replicate row 0;
        cols = replicate col 0;
        kinds = replicate kind 1;
        wraps = replicate wraps 0;
        nums = replicate num 0;
        ats = replicate at 0;
        lens = replicate len 0;
      };
      region_rows = replicate regionRow 0;
      region_cols = replicate region_col 0;
      pool = [];
      name = span 0 0;
      rules = record { records = []; number = 65 };
      start = 5;
    }

-- any cell column by itself, and too many rules are not looked at yet
cell_columns_differ : map decided_of (
    columns 0 1 1 1 1 1 1 2 2 ∷ columns 1 2 1 1 1 1 1 2 2 ∷ columns 1 1 0 1 1 1 1 2 2 ∷ columns 1 1 1 2 1 1 1 2 2
    ∷ columns 1 1 1 1 0 1 1 2 2 ∷ columns 1 1 1 1 1 2 1 2 2 ∷ columns 1 1 1 1 1 1 0 2 2 ∷ [])
    ≡ replicate 7 (refused (refusal 1 0 5 0))
unfolding jobs samples
cell_columns_differ = refl

region_columns_differ : map decided_of (columns 1 1 1 1 1 1 1 2 1 ∷ columns 1 1 1 1 1 1 1 1 2 ∷ [])
    ≡ replicate 2 (refused (refusal 1 0 5 0))
unfolding jobs samples
region_columns_differ = refl

-- ---- 2: too many

-- here the second cell and region do not rise, and that is not looked at yet
too_many_rules : decided_of (columns 2 2 2 2 2 2 2 2 2) ≡ refused (refusal 2 0 5 0)
unfolding jobs samples
too_many_rules = refl

too_many_cells : decided_of (job_of (replicate 1025 (number 1_048_576 0 0)) [] [] 5) ≡ refused (refusal 2 0 5 0)
unfolding jobs samples
too_many_cells = refl

too_many_regions : decided_of (job_of [] (replicate 1025 (at 1_048_576 0)) [] 5) ≡ refused (refusal 2 0 5 0)
unfolding jobs samples
too_many_regions = refl

too_many_bytes : decided_of (job_in (replicate 65_537 0) (span 0 65_538) [] [] (all_of []) 5) ≡ refused (refusal 2 0 5 0)
unfolding jobs samples
too_many_bytes = refl

-- the numbers themselves are not too many
as_many_as_may_be : too_many (job_in (replicate 65_536 0) (span 0 0) (replicate 1024 (error 0)) (replicate 1024 (at 0 0))
    (all_of (replicate 64 (rule (rows 1) (CfRule.DataBar green)))) 5) ≡ false
unfolding jobs samples
as_many_as_may_be = refl

-- ---- 3: off the grid, unknown kind, text outside the pool (of 10 bytes), bool not 0 or 1

abbrev cells_alone : List CellRow → Job
cells_alone cells = job_of cells [] [] 5

abbrev regions_alone : List CellCoordinate → Job
regions_alone rs = job_of [] rs [] 5

-- by row, and by column
cell_off_grid : decided_of (cells_alone (number 0 0 0 ∷ number 1_048_576 0 0 ∷ [])) ≡ refused (refusal 3 1 5 0)
unfolding jobs samples
cell_off_grid = refl

cell_off_grid_by_column : decided_of (cells_alone (number 0 16_384 0 ∷ [])) ≡ refused (refusal 3 0 5 0)
unfolding jobs samples
cell_off_grid_by_column = refl

-- each behind a cell that is sound: kinds 0 and 6, bool 2, a text one byte past the pool, an empty one past it, and one whose end is 2^32
bad_values : map (λ c. decided_of (cells_alone (error 0 ∷ c ∷ [])))
    (cell 1 0 0 0 0 0 0 ∷ cell 1 0 6 0 0 0 0 ∷ bool 1 2 ∷ text 1 9 2 ∷ text 1 11 0 ∷ text 1 (2 ^ 32 - 1) 1 ∷ [])
    ≡ replicate 6 (refused (refusal 3 1 5 0))
unfolding jobs samples
bad_values = refl

-- the grid's last cell, a text that ends with the pool, an empty one at its end, both bools; a number's `at` and `len` are not looked at,
-- nor is a bool's `at`
sound_values : map (λ c. number_of (cells_alone (c ∷ [])))
    (number 1_048_575 16_383 0 ∷ text 0 9 1 ∷ text 0 10 0 ∷ bool 0 0 ∷ bool 0 1 ∷ cell 0 0 1 255 0 11 2 ∷ cell 0 0 4 0 0 11 1 ∷ [])
    ≡ replicate 7 0
unfolding jobs samples
sound_values = refl

region_off_grid : map (λ r. decided_of (regions_alone (at 0 0 ∷ r ∷ []))) (at 1_048_576 0 ∷ at 1 16_384 ∷ [])
    ≡ replicate 2 (refused (refusal 3 1 5 0))
unfolding jobs samples
region_off_grid = refl

-- a cell at a later index comes before a region at an earlier one
cells_before_regions : decided_of (job_of (error 0 ∷ error 1 ∷ bool 2 2 ∷ []) (at 1_048_576 0 ∷ []) [] 5) ≡ refused (refusal 3 2 5 0)
unfolding jobs samples
cells_before_regions = refl

-- the first of two
first_bad_cell : decided_of (cells_alone (error 0 ∷ bool 1 2 ∷ bool 2 2 ∷ [])) ≡ refused (refusal 3 1 5 0)
unfolding jobs samples
first_bad_cell = refl

-- a region off the grid comes before cells that do not rise
off_grid_before_rising : decided_of (job_of (error 1 ∷ error 0 ∷ []) (at 0 0 ∷ at 1 0 ∷ at 1_048_576 0 ∷ []) [] 5) ≡ refused (refusal 3 2 5 0)
unfolding jobs samples
off_grid_before_rising = refl

-- ---- 4: not strictly rising by (row, col)

-- equal coordinates, a lower row, a lower column: the place is the later one's
falling_cells : map (λ c. decided_of (cells_alone (number 0 0 0 ∷ number 1 1 0 ∷ c ∷ [])))
    (number 1 1 0 ∷ number 0 2 0 ∷ number 1 0 0 ∷ []) ≡ replicate 3 (refused (refusal 4 2 5 0))
unfolding jobs samples
falling_cells = refl

falling_regions : map (λ r. decided_of (regions_alone (at 0 0 ∷ at 1 1 ∷ r ∷ []))) (at 1 1 ∷ at 0 2 ∷ at 1 0 ∷ [])
    ≡ replicate 3 (refused (refusal 4 2 5 0))
unfolding jobs samples
falling_regions = refl

-- a higher row rises whatever its column
rising : number_of (job_of (number 0 5 0 ∷ number 0 6 0 ∷ number 1 0 0 ∷ []) (at 0 5 ∷ at 1 0 ∷ []) [] 5) ≡ 0
unfolding jobs samples
rising = refl

-- cells that fall later come before regions that fall earlier
falling_cells_before_regions : decided_of (job_of (error 0 ∷ error 1 ∷ error 1 ∷ []) (at 0 0 ∷ at 0 0 ∷ []) [] 5) ≡ refused (refusal 4 2 5 0)
unfolding jobs samples
falling_cells_before_regions = refl

-- and before a sheet name outside the pool
falling_before_names : decided_of (job_in sample_pool (span 10 1) (error 0 ∷ error 0 ∷ []) [] (all_of []) 5) ≡ refused (refusal 4 1 5 0)
unfolding jobs samples
falling_before_names = refl

-- ---- 5: a name outside the pool

-- the rules over a sheet whose name is outside too, or inside
abbrev named : ℕ → List Rule → Result
named len rs = decided_of (job_in sample_pool (span 10 len) [] [] (all_of rs) 5)

abbrev lost : ConditionalOperand
lost = relative (Some (span 9 2)) 0 0

abbrev sound : Rule
sound = rule (rows 1) (equal_to (relative (Some (span 9 1)) 0 0))

abbrev within : DvOp → ConditionalOperand → Rule
within op second = rule (rows 1) (CfRule.CellIs op (literal 1) second red)

sheet_name_outside : named 1 (sound ∷ []) ≡ refused (refusal 5 64 5 0)
unfolding jobs samples
sheet_name_outside = refl

-- each comes before the sheet's name: the first operand, the second of Between and of NotBetween, and either side of an expression
-- whose other side is unread
rule_before_sheet_name : map (λ r. named 1 (sound ∷ r ∷ []))
    (rule (rows 1) (equal_to lost) ∷ within DvOp.Between lost ∷ within DvOp.NotBetween lost
    ∷ rule (rows 1) (equals lost ConditionalOperand.Unread) ∷ rule (rows 1) (equals ConditionalOperand.Unread lost) ∷ [])
    ≡ replicate 5 (refused (refusal 5 1 5 0))
unfolding jobs samples
rule_before_sheet_name = refl

-- the operator alone says what is used, even under an inverted range that never reads it
inverted_range_name : named 0 (rule (range 1 0 0 0) (equal_to lost) ∷ []) ≡ refused (refusal 5 0 5 0)
unfolding jobs samples
inverted_range_name = refl

-- the second operand of any other operator is unused
unused_names : map (λ op. (named 0 (within op lost ∷ [])).summary.number)
    (DvOp.Equal ∷ DvOp.NotEqual ∷ DvOp.GreaterThan ∷ DvOp.LessThan ∷ DvOp.GreaterThanOrEqual ∷ DvOp.LessThanOrEqual ∷ []) ≡ replicate 6 0
unfolding jobs samples
unused_names = refl

-- and so is a record past the rules' number
unused_record : number_of (
    job_in sample_pool (span 0 1) [] [] (record { records = sound ∷ rule (rows 1) (equal_to lost) ∷ []; number = 1 }) 5) ≡ 0
unfolding jobs samples
unused_record = refl

-- ---- 6: bar columns shorter than regions, scratch shorter than cells

-- two cells, three regions and a rule that charges, with columns of these lengths and a limit of 0
abbrev room_for : ℕ → ℕ → ℕ → ℕ → Result
room_for len bar_rules bar_ppms scratch =
    result (job_in sample_pool (span 10 len) (down (1 ∷ 2 ∷ [])) (regions 3) (all_of (rule (rows 3) (CfRule.DataBar green) ∷ [])) 5) 0
    (record { regions = 0; rules = 0; kinds = 0; colours = 0; ppms = 0; shapes = 0; bar_rules = bar_rules; bar_ppms = bar_ppms; scratch = scratch })

-- each column by itself, and ahead of the limit
short_of_space : room_for 0 2 3 2 ∷ room_for 0 3 2 2 ∷ room_for 0 3 3 1 ∷ [] ≡ replicate 3 (refused (refusal 6 0 5 0))
unfolding jobs samples
short_of_space = refl

-- with enough of each the limit is next
space_enough : room_for 0 3 3 2 ≡ refused (refusal 7 0 6 6)
unfolding jobs samples
space_enough = refl

-- a name outside the pool comes first
names_before_space : room_for 1 2 3 2 ≡ refused (refusal 5 64 5 0)
unfolding jobs samples
names_before_space = refl
