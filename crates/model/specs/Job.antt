-- A job as it is lent: its columns, the checks 1 to 6 in their order, and its result (document 01, 'The lent sheet', 'Turned back').
-- Assumes nothing.
use Rattle.std.specs.Prelude.{ℕ, zero, suc, ◌+◌, ◌-◌, min, Bool, false, cond, not, ◌&&◌, ◌||◌, List, [], ◌∷◌, ltb, eqb, length, take, get_or, Some, None}
use Rattle.std.proofs.Math.Option.{Option, none, some}
use Rattle.model.specs.declared.Span.{Span}
use Rattle.model.specs.Options.{SheetName}
use Rattle.model.specs.declared.ConditionalOperand.{ConditionalOperand}
use Rattle.model.specs.declared.CfRule.{CfRule}
use Rattle.model.specs.declared.Rule.{Rule}
use Rattle.model.specs.declared.Rules.{Rules}
use Rattle.model.specs.Sheet.{Sheet, CellColumns, max_row, max_col, max_cells, max_regions, max_rules, max_pool, cells_from, regions_from}
use Rattle.model.specs.Comparison.{uses_second}
use Rattle.model.specs.Run.{Run, run}
use Rattle.model.specs.Answer.{Summary, Result, refusal, refused, limited}

-- the cell columns, the two region columns, the pool, the sheet's name, the rules, and S
pub record Job : Type 0 where
  pub cells : CellColumns
  pub region_rows : List ℕ
  pub region_cols : List ℕ
  pub pool : List ℕ
  pub name : Span
  pub rules : Rules
  pub start : ℕ

-- the lengths of the nine columns that are lent for writing
pub record Lengths : Type 0 where
  pub regions : ℕ
  pub rules : ℕ
  pub kinds : ℕ
  pub colours : ℕ
  pub ppms : ℕ
  pub shapes : ℕ
  pub bar_rules : ℕ
  pub bar_ppms : ℕ
  pub scratch : ℕ

-- the space for marks is the shortest of the mark columns
unfoldable pub mark_space : Lengths → ℕ
mark_space l = min l.regions (min l.rules (min l.kinds (min l.colours (min l.ppms l.shapes))))

unfoldable pub rules_of : Job → List Rule
rules_of j = take j.rules.number j.rules.records

-- ---- the checks

-- the first of the n numbers from i on at which the test holds
unfoldable pub first_from : (ℕ → Bool) → ℕ → ℕ → Option ℕ
first_from test i zero = none
first_from test i (suc n) = let later = first_from test (suc i) n in cond (test i) (some i) later

unfoldable pub off_grid : ℕ → ℕ → Bool
off_grid row col = ltb max_row row || ltb max_col col

-- (row, col) before (row', col')
unfoldable pub rises : ℕ → ℕ → ℕ → ℕ → Bool
rises row col row' col' = ltb row row' || (eqb row row' && ltb col col')

-- the element at i does not rise above the one before it
unfoldable pub falls_at : List ℕ → List ℕ → ℕ → Bool
falls_at rows cols i = not (rises (get_or rows (i - 1) 0) (get_or cols (i - 1) 0) (get_or rows i 0) (get_or cols i 0))

-- the first later one that does not rise
unfoldable pub first_fall : List ℕ → List ℕ → Option ℕ
first_fall rows cols = first_from (falls_at rows cols) 1 (length rows - 1)

unfoldable pub outside : List ℕ → Span → Bool
outside pool s = ltb (length pool) (s.at + s.len)

unfoldable pub bad_value : List ℕ → ℕ → ℕ → ℕ → Bool
bad_value pool kind at len =
    eqb kind 0 || ltb 5 kind || (eqb kind 3 && outside pool (record { at = at; len = len })) || (eqb kind 4 && ltb 1 len)

-- a cell off the grid, of an unknown kind, a text outside the pool, a bool that is not 0 or 1
unfoldable pub bad_cell_at : List ℕ → CellColumns → ℕ → Bool
bad_cell_at pool c i =
    off_grid (get_or c.rows i 0) (get_or c.cols i 0) || bad_value pool (get_or c.kinds i 0) (get_or c.ats i 0) (get_or c.lens i 0)

unfoldable pub bad_region_at : List ℕ → List ℕ → ℕ → Bool
bad_region_at rows cols i = off_grid (get_or rows i 0) (get_or cols i 0)

unfoldable pub bad_name : List ℕ → SheetName → Bool
bad_name pool None = false
bad_name pool (Some t) = outside pool t

unfoldable pub bad_operand : List ℕ → ConditionalOperand → Bool
bad_operand pool (ConditionalOperand.Literal x) = false
bad_operand pool (ConditionalOperand.Reference f) = bad_name pool f.sheet
bad_operand pool ConditionalOperand.Unread = false

-- a used reference's name outside the pool; the operator alone says what is used
unfoldable pub bad_kind : List ℕ → CfRule → Bool
bad_kind pool (CfRule.CellIs op first second fill) = bad_operand pool first || (uses_second op && bad_operand pool second)
bad_kind pool (CfRule.ColorScale2 min max) = false
bad_kind pool (CfRule.ColorScale3 min mid max) = false
bad_kind pool (CfRule.DataBar color) = false
bad_kind pool (CfRule.TopBottom rank bottom percent fill) = false
bad_kind pool (CfRule.AboveAverage below fill) = false
bad_kind pool (CfRule.DuplicateValues unique fill) = false
bad_kind pool (CfRule.Expression op left right fill) = bad_operand pool left || bad_operand pool right

unfoldable pub first_bad_rule : List ℕ → ℕ → List Rule → Option ℕ
first_bad_rule pool i [] = none
first_bad_rule pool i (r ∷ rs) = let later = first_bad_rule pool (suc i) rs in cond (bad_kind pool r.kind) (some i) later

module _ (j : Job) where
  abbrev pub cell_count : ℕ
  cell_count = length j.cells.rows

  abbrev pub region_count : ℕ
  region_count = length j.region_rows

  unfoldable pub lengths_differ : Bool
  lengths_differ =
      let c = j.cells in
      not (eqb (length c.cols) cell_count && eqb (length c.kinds) cell_count && eqb (length c.wraps) cell_count
      && eqb (length c.nums) cell_count && eqb (length c.ats) cell_count && eqb (length c.lens) cell_count
      && eqb (length j.region_cols) region_count)

  unfoldable pub too_many : Bool
  too_many =
      ltb max_cells cell_count || ltb max_regions region_count || ltb max_rules j.rules.number || ltb max_pool (length j.pool)

  -- a refusal ahead of any charge: place, S, 0
  unfoldable pub refuse_at : ℕ → Option ℕ → Option Summary
  refuse_at number none = none
  refuse_at number (some place) = some (refusal number place j.start 0)

  unfoldable pub refuse_if : ℕ → ℕ → Bool → Option Summary
  refuse_if number place bad = cond bad (some (refusal number place j.start 0)) none

unfoldable pub first_of : List (Option Summary) → Option Summary
first_of [] = none
first_of (none ∷ cs) = first_of cs
first_of (some s ∷ cs) = some s

-- the checks 1 to 5: a job is well-formed when none is met
unfoldable pub malformed : Job → Option Summary
malformed j =
    first_of (
    refuse_if j 1 0 (lengths_differ j)
    ∷ refuse_if j 2 0 (too_many j)
    ∷ refuse_at j 3 (first_from (bad_cell_at j.pool j.cells) 0 (cell_count j))
    ∷ refuse_at j 3 (first_from (bad_region_at j.region_rows j.region_cols) 0 (region_count j))
    ∷ refuse_at j 4 (first_fall j.cells.rows j.cells.cols)
    ∷ refuse_at j 4 (first_fall j.region_rows j.region_cols)
    ∷ refuse_at j 5 (first_bad_rule j.pool 0 (rules_of j))
    ∷ refuse_if j 5 64 (outside j.pool j.name)
    ∷ [])

-- the check 6: there is enough scratch and bar space when it is not met
unfoldable pub space_short : Job → Lengths → Option Summary
space_short j l =
    refuse_if j 6 0 (ltb l.bar_rules (region_count j) || ltb l.bar_ppms (region_count j) || ltb l.scratch (cell_count j))

-- ---- the result

unfoldable pub sheet_of : Job → Sheet
sheet_of j =
    record {
      cells = cells_from j.cells 0 (cell_count j);
      regions = regions_from j.region_rows j.region_cols 0 (region_count j);
      pool = j.pool;
      name = j.name;
    }

-- the run of a job without a limit
unfoldable pub run_of : Job → Run
run_of j = run (sheet_of j) (rules_of j)

abbrev pub or_else : Option Summary → Result → Result
or_else none r = r
or_else (some s) r = refused s

-- what a job comes to with a limit and the columns lent for writing
unfoldable pub result : Job → ℕ → Lengths → Result
result j limit l = or_else (malformed j) (or_else (space_short j l) (limited limit j.start (mark_space l) (run_of j)))
