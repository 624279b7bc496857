-- A job whose report is the longest: zeros down 1,024 rows, a region on each, ten rules that are deferred, a bar rule with the index 10
-- that stops every region, and nine bar rules behind it. What it is as it is lent, and its run. Assumes nothing.
use Rattle.std.specs.Prelude.{None}
use Prim.Native.Nat.{ℕ, zero, suc, ◌+◌, ◌-◌, ◌≤◌, ◌<◌}
use native.Mathlib.Omega.{arith}
use mathlib.Core.Path.{◌≡◌, refl}
use mathlib.Core.Bool.{Bool, true, false}
use mathlib.Core.List.{List, [], ◌∷◌}
use mathlib.Core.Option.{none}
use lib.Ieee.{binary64, of_bits}
use lib.ListN.{length, get_or, replicate, get_or-replicate}
use borrow.Author.Tests.{le-ltb, lt-ltb}
use Rattle.model.specs.declared.Cell.{Cell}
use Rattle.model.specs.declared.CellCoordinate.{CellCoordinate}
use Rattle.model.specs.declared.CellValue.{CellValue}
use Rattle.model.specs.declared.ConditionalComparison.{ConditionalComparison}
use Rattle.model.specs.declared.Rgb.{Rgb}
use Rattle.model.specs.Sheet.{Sheet, CellAt, CellColumns, value_of, cell_from, cells_from, regions_from}
use Rattle.model.specs.Job as Job
use Rattle.model.specs.Job.{Job, malformed, sheet_of, rules_of}
use Rattle.model.proofs.Computing.{jobs}
use Rattle.laws.proofs.First.{first_from_none}
use Rattle.jobtext.specs.Written.{Value, CellLine, Operand, Kind, RuleLine, JobText}
use Rattle.jobtext.specs.Laid.{laid}
use Rattle.jobtext.proofs.Computing.{laying}

-- ---- the job

abbrev pub at : ℕ → CellCoordinate
at row = record { row = row; col = 0 }

-- n cells and n regions down the first column, from a row on
unfoldable pub cell_lines : ℕ → ℕ → List CellLine
cell_lines row zero = []
cell_lines row (suc n) = record { row = row; col = 0; wraps = 0; value = Value.number 0 } ∷ cell_lines (suc row) n

unfoldable pub regions_down : ℕ → ℕ → List CellCoordinate
regions_down row zero = []
regions_down row (suc n) = at row ∷ regions_down (suc row) n

-- a k times, ahead of some others
unfoldable pub repeat : {A : Type 0} → ℕ → A → List A → List A
repeat zero a rest = rest
repeat (suc k) a rest = a ∷ repeat k a rest

abbrev pub black : Rgb
black = record { red = 0; green = 0; blue = 0 }

abbrev rule_line : ℕ → Bool → Kind → RuleLine
rule_line bottom stop kind =
    record {
      range = record { top = 0; left = 0; bottom = bottom; right = 0 };
      priority = None;
      stop = stop;
      imported = false;
      kind = kind;
    }

abbrev pub deferred_line : RuleLine
deferred_line = rule_line 0 false (Kind.expr ConditionalComparison.Equal Operand.unread Operand.unread black)

abbrev pub stopping_line : RuleLine
stopping_line = rule_line 1023 true (Kind.bar black)

abbrev pub later_line : RuleLine
later_line = rule_line 0 false (Kind.bar black)

abbrev pub longest_job : JobText
longest_job =
    record {
      limit = 18_446_744_073_709_551_615;
      start = 10_000_000_000_000_000_000;
      name = [];
      cells = cell_lines 0 1024;
      regions = regions_down 0 1024;
      rules = repeat 10 deferred_line (stopping_line ∷ repeat 9 later_line []);
    }

-- ---- as it is lent

unfoldable pub up_from : ℕ → ℕ → List ℕ
up_from row zero = []
up_from row (suc n) = row ∷ up_from (suc row) n

unfoldable pub rows : List ℕ
rows = up_from 0 1024

unfoldable pub column : ℕ → List ℕ
column x = replicate 1024 x

abbrev columns : CellColumns
columns =
    record { rows = rows; cols = column 0; kinds = column 1; wraps = column 0; nums = column 0; ats = column 0; lens = column 0 }

abbrev pub lent : Job
lent =
    record {
      cells = columns;
      region_rows = rows;
      region_cols = column 0;
      pool = [];
      name = record { at = 0; len = 0 };
      rules = (laid longest_job).rules;
      start = 10_000_000_000_000_000_000;
    }

pub lent_is : laid longest_job ≡ lent
unfolding laying cell_lines regions_down repeat up_from rows column
lent_is = refl

up_at : (row n i : ℕ) → i < n → get_or (up_from row n) i 0 ≡ row + i
unfolding up_from
up_at row zero i h = absurd (omega arith)
up_at row (suc n) zero h = omega arith
up_at row (suc n) (suc i) h = omega (arith, up_at (suc row) n i (omega arith))

row_at : (i : ℕ) → i < 1024 → get_or rows i 0 ≡ i
unfolding rows
row_at i h = omega (arith, up_at 0 1024 i h)

column_at : (x i : ℕ) → i < 1024 → get_or (column x) i 0 ≡ x
unfolding column
column_at x i h = get_or-replicate 1024 i x 0 h

rows_length : length rows ≡ 1024
unfolding rows up_from
rows_length = refl

-- ---- its sheet

abbrev pub zero_cell : Cell
zero_cell = record { value = CellValue.Number (of_bits binary64 0); wraps = 0 }

unfoldable pub cells_at : ℕ → ℕ → List CellAt
cells_at row zero = []
cells_at row (suc n) = record { at = at row; cell = zero_cell } ∷ cells_at (suc row) n

abbrev pub sheet : Sheet
sheet = record { cells = cells_at 0 1024; regions = regions_down 0 1024; pool = []; name = record { at = 0; len = 0 } }

cells_are : (i n : ℕ) → i + n ≤ 1024 → cells_from columns i n ≡ cells_at i n
unfolding cells_from cell_from value_of cells_at
cells_are i zero h = refl
cells_are i (suc n) h =
    rw (row_at i (omega arith), column_at 0 i (omega arith), column_at 1 i (omega arith), cells_are (suc i) n (omega arith))

regions_are : (i n : ℕ) → i + n ≤ 1024 → regions_from rows (column 0) i n ≡ regions_down i n
unfolding regions_from regions_down
regions_are i zero h = refl
regions_are i (suc n) h = rw (row_at i (omega arith), column_at 0 i (omega arith), regions_are (suc i) n (omega arith))

pub sheet_is : sheet_of lent ≡ sheet
unfolding sheet_of
sheet_is = rw (rows_length, cells_are 0 1024 (omega arith), regions_are 0 1024 (omega arith))

-- ---- its checks

cell_fine : (k : ℕ) → 0 ≤ k → k < 0 + 1024 → Job.bad_cell_at [] columns k ≡ false
unfolding Job.bad_cell_at Job.off_grid Job.bad_value Job.outside
cell_fine k a h = rw (row_at k (omega arith), column_at 0 k (omega arith), column_at 1 k (omega arith), le-ltb 1_048_575 k (omega arith))

region_fine : (k : ℕ) → 0 ≤ k → k < 0 + 1024 → Job.bad_region_at rows (column 0) k ≡ false
unfolding Job.bad_region_at Job.off_grid
region_fine k a h = rw (row_at k (omega arith), column_at 0 k (omega arith), le-ltb 1_048_575 k (omega arith))

rising : (k : ℕ) → 1 ≤ k → k < 1 + 1023 → Job.falls_at rows (column 0) k ≡ false
unfolding Job.falls_at Job.rises
rising k a h = rw (row_at k (omega arith), row_at (k - 1) (omega arith), lt-ltb (k - 1) k (omega arith))

others_fine : Job.first_of (
    Job.refuse_if lent 1 0 (Job.lengths_differ lent)
    ∷ Job.refuse_if lent 2 0 (Job.too_many lent)
    ∷ none
    ∷ none
    ∷ none
    ∷ none
    ∷ Job.refuse_at lent 5 (Job.first_bad_rule [] 0 (rules_of lent))
    ∷ Job.refuse_if lent 5 64 (Job.outside [] lent.name)
    ∷ []) ≡ none
unfolding laying jobs repeat cell_lines up_from rows column
others_fine = refl

pub well_formed : malformed lent ≡ none
unfolding malformed Job.first_fall Job.refuse_at
well_formed =
    rw (
      rows_length,
      (first_from_none (Job.bad_cell_at [] columns) 0 1024).1 cell_fine,
      (first_from_none (Job.bad_region_at rows (column 0)) 0 1024).1 region_fine,
      (first_from_none (Job.falls_at rows (column 0)) 1 1023).1 rising,
    ) others_fine
