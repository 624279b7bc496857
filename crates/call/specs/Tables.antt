-- The tables that are worked out once for a job, and what they have to do with its sheet: the numbers of the cells, those of the regions'
-- cells, the numbers that operands read as, and the codes of the keys. Not-a-number stands for no number. Assumes nothing.
use Rattle.std.specs.Prelude.{ℕ, zero, suc, ◌+◌, ◌≤◌, ◌<◌, min, ◌≡◌, Bool, true, false, cond, not, ◌&&◌, ◌||◌, List, [], ◌∷◌, eqb, Float, length, get_or, Some, None}
use Rattle.std.proofs.Math.Option.{none}
use Rattle.std.specs.Float.{nan}
use Rattle.std.specs.Float.Ieee.{eq}
use Rattle.model.specs.declared.A1Reference.{A1Reference}
use Rattle.model.specs.Options.{Axis}
use Rattle.model.specs.declared.Cell.{Cell}
use Rattle.model.specs.declared.CfRule.{CfRule}
use Rattle.model.specs.declared.ConditionalOperand.{ConditionalOperand}
use Rattle.model.specs.declared.Range.{Range}
use Rattle.model.specs.declared.Span.{Span}
use Rattle.model.specs.declared.Test.{Test}
use Rattle.model.specs.Sheet.{CellColumns, value_of, cell_from, in_range, within_grid}
use Rattle.model.specs.Readings.{numeric_cell_value, numeric_at, key_at}
use Rattle.model.specs.References.{resolved}
use Rattle.model.specs.Job.{first_fall}
use Rattle.model.specs.Rule.{cells_in, keys, times}
use Rattle.cells.specs.Columns.{cells_of, coordinate_at, entry_at, sheet_with}
use Rattle.keys.specs.Names.{keys_held, names_of}
use Rattle.plans.specs.Plans.{takes_values}
use Rattle.hits.specs.Said.{as_float}
use Rattle.hits.specs.Hits.{by_literals, number_at, column_in}
use Rattle.order.specs.Order.{is_duplicates}
use Rattle.turns.specs.Knowing.{takes_first, InRange}
use Rattle.turns.specs.Bands.{BandOf}

-- a cell from the entries of its columns
abbrev pub cell_of : ℕ → ℕ → ℕ → ℕ → ℕ → Cell
cell_of kind wraps bits at len = record { value = value_of kind bits at len; wraps = wraps }

-- the number of the cell that an entry of a table of places names
unfoldable pub number_named : List Float → ℕ → Float
number_named numbers zero = nan
number_named numbers (suc place) = get_or numbers place nan

-- the number of each cell
abbrev pub Numbered : CellColumns → List Float → Type 0
Numbered c numbers = (j : ℕ) → j < length c.rows → get_or numbers j nan ≡ as_float (numeric_cell_value (cell_from c j).cell)

-- each float of a part is a number
abbrev pub NumbersIn : ℕ → ℕ → List Float → Type 0
NumbersIn from to floats = (i : ℕ) → from ≤ i → i < to → eq (get_or floats i nan) (get_or floats i nan) ≡ true

-- each float is
abbrev pub AllNumbers : List Float → Type 0
AllNumbers floats = NumbersIn 0 (length floats) floats

-- the place of each region's cell
abbrev pub Followed : CellColumns → List ℕ → List ℕ → List ℕ → Type 0
Followed c rows cols places = (i : ℕ) → i < length rows → get_or places i 0 ≡ entry_at c.rows c.cols (coordinate_at rows cols i)

-- the number of each region's cell
abbrev pub Valued : CellColumns → List ℕ → List ℕ → List Float → Type 0
Valued c rows cols values = (i : ℕ) → i < length rows → get_or values i nan ≡ as_float (numeric_at (cells_of c) (coordinate_at rows cols i))

-- from each region in range an operand reads as the definition has it
abbrev pub Meant : CellColumns → List ℕ → Span → Range → List ℕ → List ℕ → ConditionalOperand → List Float → Type 0
Meant c pool name range rows cols o column =
    InRange range rows cols
    (λ i. number_at column i ≡ resolved (sheet_with (cells_of c) pool name) range (coordinate_at rows cols i) o)

-- the row or the column that an axis means; outside the grid a number that none has
unfoldable pub axis_number : Axis → ℕ
axis_number (Some v) = v
axis_number None = 4_294_967_296

-- whether a reference means the target itself from each target in range
unfoldable pub means_target : A1Reference → Range → Bool
means_target f range =
    not (f.row_absolute || f.col_absolute) && eqb f.row range.top && eqb f.col range.left && within_grid range

-- the cells rise and are few, and those in the rows of a range are known
pub record Banded (range : Range) (c : CellColumns) (from to : ℕ) : Type 0 where
  pub rise : first_fall c.rows c.cols ≡ none
  pub few : length c.rows ≤ 1024
  pub band : BandOf range c.rows from to

-- whether a kind asks how many cells are in range: it takes values, or counts keys
unfoldable pub asks_cells : CfRule → Bool
asks_cells kind = takes_values kind || is_duplicates kind

-- how many cells are in range, where a kind asks for them
abbrev pub CellsCounted : CfRule → Range → CellColumns → ℕ → Type 0
CellsCounted kind range c inside = asks_cells kind ≡ true → inside ≡ length (cells_in range (cells_of c))

-- the indices of the n regions from index i on whose column is the range's
unfoldable pub inside_from : Range → List ℕ → ℕ → ℕ → List ℕ
inside_from range cols i zero = []
inside_from range cols i (suc n) =
    let later = inside_from range cols (suc i) n in
    cond (column_in range (get_or cols i 0)) (i ∷ later) later

-- whether a test looks at the columns of what its operands read as
unfoldable pub looks_at_operands : Test → Bool
looks_at_operands t = cond (by_literals t) false (takes_first t)

-- ---- codes of keys

-- the code of the cell that an entry names, 0 for none
unfoldable pub code_named : List ℕ → ℕ → ℕ
code_named codes zero = 0
code_named codes (suc place) = get_or codes place 0

-- how many of the n cells from index i on are in range and have a code
unfoldable pub coded_from : Range → List ℕ → List ℕ → List ℕ → ℕ → ℕ → ℕ → ℕ
coded_from range rows cols codes code i zero = 0
coded_from range rows cols codes code i (suc n) =
    cond (in_range range (coordinate_at rows cols i) && eqb (get_or codes i 0) code) 1 0 + coded_from range rows cols codes code (suc i) n

-- the codes tell the keys of the sheet apart
abbrev pub Coded : List ℕ → CellColumns → List ℕ → Type 0
Coded pool c codes = codes ≡ names_of pool (keys_held pool c 0 (min (length c.rows) 1024))

-- of each region in range, how many cells in range have its key
abbrev pub Founded : List ℕ → CellColumns → Range → List ℕ → List ℕ → List ℕ → Type 0
Founded pool c range rows cols founds =
    InRange range rows cols (λ i. get_or founds i 0
    ≡ times pool (key_at pool (cells_of c) (coordinate_at rows cols i)) (keys pool (cells_in range (cells_of c))))

-- all of them are those of the sheet; codes are asked for only by a rule that counts keys
pub record Tabled (c : CellColumns) (pool : List ℕ) (kind : CfRule) (rows cols places : List ℕ) (floats values : List Float)
    (codes : List ℕ) : Type 0 where
  pub numbered : Numbered c floats
  pub followed : Followed c rows cols places
  pub valued : Valued c rows cols values
  pub coded : is_duplicates kind ≡ true → Coded pool c codes
