-- Short builders for computed examples: cells, regions, rules, whole jobs, and what is read off a result.
-- The pool of `job_of` holds the texts named here, and its sheet is named `S`. Assumes nothing.
use Rattle.std.specs.Prelude.{Some, None}
use Prim.Native.Nat.{ℕ, zero, suc, ◌-◌, ◌^◌}
use mathlib.Core.Bool.{true, false}
use mathlib.Core.List.{List, [], ◌∷◌, map}
use lib.IntN.{pos}
use lib.ListN.{length}
use lib.Ieee.{Float, binary64, of_bits, to_bits, of_int}
use Rattle.model.specs.declared.Span.{Span}
use Rattle.model.specs.declared.CellCoordinate.{CellCoordinate}
use Rattle.model.specs.declared.Range.{Range}
use Rattle.model.specs.declared.Rgb.{Rgb}
use Rattle.model.specs.Options.{SheetName}
use Rattle.model.specs.declared.ConditionalOperand.{ConditionalOperand}
use Rattle.model.specs.declared.DvOp.{DvOp}
use Rattle.model.specs.declared.ConditionalComparison.{ConditionalComparison}
use Rattle.model.specs.declared.CfRule.{CfRule}
use Rattle.model.specs.declared.Rule.{Rule}
use Rattle.model.specs.declared.Rules.{Rules}
use Rattle.model.specs.Run.{Mark, RegionState}
use Rattle.model.specs.Answer.{Result}
use Rattle.model.specs.Job.{Job, Lengths, result}

-- ---- numbers by their bit patterns

-- the pattern of a whole number
unfoldable pub whole : ℕ → ℕ
whole n = to_bits binary64 (of_int binary64 (pos n))

unfoldable pub float : ℕ → Float
float bits = of_bits binary64 bits

-- the largest finite number and its opposite, infinity and not-a-number
unfoldable pub largest : ℕ
largest = 0x7fefffffffffffff

unfoldable pub lowest : ℕ
lowest = 0xffefffffffffffff

unfoldable pub infinity : ℕ
infinity = 0x7ff0000000000000

unfoldable pub not_a_number : ℕ
not_a_number = 0x7ff8000000000000

-- ---- texts of the pool

unfoldable pub span : ℕ → ℕ → Span
span at len = record { at = at; len = len }

-- `S`, `s`, `Ab`, `aB`, `1`, `*`, and the two bytes of an accented letter
unfoldable pub sample_pool : List ℕ
sample_pool = 83 ∷ 115 ∷ 65 ∷ 98 ∷ 97 ∷ 66 ∷ 49 ∷ 42 ∷ 195 ∷ 169 ∷ []

-- ---- cells: kinds are 1 number, 2 date, 3 text, 4 bool and 5 error

pub record CellRow : Type 0 where
  pub row : ℕ
  pub col : ℕ
  pub kind : ℕ
  pub wraps : ℕ
  pub num : ℕ
  pub at : ℕ
  pub len : ℕ

unfoldable pub cell : ℕ → ℕ → ℕ → ℕ → ℕ → ℕ → ℕ → CellRow
cell row col kind wraps num at len = record { row = row; col = col; kind = kind; wraps = wraps; num = num; at = at; len = len }

-- a number by its pattern, at a row and a column
unfoldable pub number : ℕ → ℕ → ℕ → CellRow
number row col num = cell row col 1 0 num 0 0

-- a text, a bool and an error in the first column
unfoldable pub text : ℕ → ℕ → ℕ → CellRow
text row at len = cell row 0 3 0 0 at len

unfoldable pub bool : ℕ → ℕ → CellRow
bool row len = cell row 0 4 0 0 0 len

unfoldable pub error : ℕ → CellRow
error row = cell row 0 5 0 0 0 0

-- numbers by their patterns down the first column from a row on
unfoldable pub down_from : ℕ → List ℕ → List CellRow
down_from row [] = []
down_from row (n ∷ ns) = number row 0 n ∷ down_from (suc row) ns

-- whole numbers down the first column
unfoldable pub down : List ℕ → List CellRow
down ns = down_from 0 (map whole ns)

-- ---- regions and ranges

unfoldable pub at : ℕ → ℕ → CellCoordinate
at row col = record { row = row; col = col }

unfoldable pub regions_from : ℕ → ℕ → List CellCoordinate
regions_from row zero = []
regions_from row (suc n) = at row 0 ∷ regions_from (suc row) n

-- so many regions down the first column
unfoldable pub regions : ℕ → List CellCoordinate
regions n = regions_from 0 n

unfoldable pub range : ℕ → ℕ → ℕ → ℕ → Range
range top left bottom right = record { top = top; left = left; bottom = bottom; right = right }

-- so many rows of the first column
unfoldable pub rows : ℕ → Range
rows n = range 0 0 (n - 1) 0

-- ---- rules

unfoldable pub rgb : ℕ → ℕ → ℕ → Rgb
rgb red green blue = record { red = red; green = green; blue = blue }

unfoldable pub red : Rgb
red = rgb 255 0 0

unfoldable pub green : Rgb
green = rgb 0 255 0

unfoldable pub blue : Rgb
blue = rgb 0 0 255

-- without a priority and a stop, not imported
unfoldable pub rule : Range → CfRule → Rule
rule r kind = record { range = r; priority = None; stop = false; imported = false; kind = kind }

unfoldable pub prior : ℕ → Rule → Rule
prior p r = record { range = r.range; priority = Some p; stop = r.stop; imported = r.imported; kind = r.kind }

unfoldable pub stopping : Rule → Rule
stopping r = record { range = r.range; priority = r.priority; stop = true; imported = r.imported; kind = r.kind }

unfoldable pub imported : Rule → Rule
imported r = record { range = r.range; priority = r.priority; stop = r.stop; imported = true; kind = r.kind }

-- a whole number as an operand
unfoldable pub literal : ℕ → ConditionalOperand
literal n = ConditionalOperand.Literal (float (whole n))

-- a reference by sheet, row and column, relative or with both axes absolute
unfoldable pub relative : SheetName → ℕ → ℕ → ConditionalOperand
relative sheet row col =
    ConditionalOperand.Reference (record { sheet = sheet; row = row; col = col; row_absolute = false; col_absolute = false })

unfoldable pub absolute : SheetName → ℕ → ℕ → ConditionalOperand
absolute sheet row col =
    ConditionalOperand.Reference (record { sheet = sheet; row = row; col = col; row_absolute = true; col_absolute = true })

-- a cell equal to an operand, in red
unfoldable pub equal_to : ConditionalOperand → CfRule
equal_to first = CfRule.CellIs DvOp.Equal first ConditionalOperand.Unread red

-- two operands that are equal, in red
unfoldable pub equals : ConditionalOperand → ConditionalOperand → CfRule
equals left right = CfRule.Expression ConditionalComparison.Equal left right red

unfoldable pub above : CfRule
above = CfRule.AboveAverage false red

unfoldable pub duplicates : CfRule
duplicates = CfRule.DuplicateValues false red

-- ---- jobs

-- rules without a record past their number
unfoldable pub all_of : List Rule → Rules
all_of rules = record { records = rules; number = length rules }

unfoldable pub job_in : List ℕ → Span → List CellRow → List CellCoordinate → Rules → ℕ → Job
job_in pool name cells regions rules start =
    record {
      cells = record {
        rows = map (λ (c : CellRow). c.row) cells;
        cols = map (λ (c : CellRow). c.col) cells;
        kinds = map (λ (c : CellRow). c.kind) cells;
        wraps = map (λ (c : CellRow). c.wraps) cells;
        nums = map (λ (c : CellRow). c.num) cells;
        ats = map (λ (c : CellRow). c.at) cells;
        lens = map (λ (c : CellRow). c.len) cells;
      };
      region_rows = map (λ (r : CellCoordinate). r.row) regions;
      region_cols = map (λ (r : CellCoordinate). r.col) regions;
      pool = pool;
      name = name;
      rules = rules;
      start = start;
    }

unfoldable pub job_of : List CellRow → List CellCoordinate → List Rule → ℕ → Job
job_of cells regions rules start = job_in sample_pool (span 0 1) cells regions (all_of rules) start

-- each mark column so long, each bar column so long, and scratch
unfoldable pub lengths : ℕ → ℕ → ℕ → Lengths
lengths marks bars scratch =
    record {
      regions = marks;
      rules = marks;
      kinds = marks;
      colours = marks;
      ppms = marks;
      shapes = marks;
      bar_rules = bars;
      bar_ppms = bars;
      scratch = scratch;
    }

unfoldable pub ample : Lengths
ample = lengths 1024 1024 1024

-- ---- results as numbers

-- what a job comes to with the highest limit and room for everything
unfoldable pub decided : Job → Result
decided j = result j (2 ^ 64 - 1) ample

-- count, marks, deferred and simplified
unfoldable pub tally : Job → List ℕ
tally j =
    let s = (decided j).summary in
    s.count ∷ s.marks ∷ s.deferred ∷ s.simplified ∷ []

unfoldable pub of_marks : (Mark → ℕ) → Job → List ℕ
of_marks field j = map field (decided j).marks

-- region, rule, kind, colour, ppm and shape of each mark, and the two bar columns
unfoldable pub mark_regions : Job → List ℕ
mark_regions j = of_marks (λ m. m.region) j

unfoldable pub mark_rules : Job → List ℕ
mark_rules j = of_marks (λ m. m.rule) j

unfoldable pub mark_kinds : Job → List ℕ
mark_kinds j = of_marks (λ m. m.paint.kind) j

unfoldable pub mark_colours : Job → List ℕ
mark_colours j = of_marks (λ m. m.paint.colour) j

unfoldable pub mark_ppms : Job → List ℕ
mark_ppms j = of_marks (λ m. m.paint.ppm) j

unfoldable pub mark_shapes : Job → List ℕ
mark_shapes j = of_marks (λ m. m.paint.shape) j

unfoldable pub bar_rules : Job → List ℕ
bar_rules j = map (λ (s : RegionState). s.bar_rule) (decided j).states

unfoldable pub bar_ppms : Job → List ℕ
bar_ppms j = map (λ (s : RegionState). s.bar_ppm) (decided j).states

-- all of these
unfoldable pub samples : Unit {0}
unfolding whole float largest lowest infinity not_a_number span sample_pool cell number text bool error down_from down
    at regions_from regions range rows rgb red green blue rule prior stopping imported literal relative absolute equal_to equals
    above duplicates all_of job_in job_of lengths ample decided tally of_marks mark_regions mark_rules mark_kinds mark_colours mark_ppms
    mark_shapes bar_rules bar_ppms
samples = tt
