-- `call::rules::run` meets its contract: the walk leaves the places of the regions' own cells at the front of an array, the numbers of the
-- cells and of the regions stand at the front of theirs, and the codes are there for the rules that ask for them. So the tables are right
-- for each rule. Assumes nothing.
use Prim.Native.Nat.{ℕ, ◌≤◌, ◌<◌}
use native.Mathlib.Omega.{arith}
use mathlib.Core.Path.{◌≡◌, sym, ap, ◌∙◌}
use mathlib.Core.List.{List, ◌++◌}
use lib.Ieee.{Float, binary64, nan, of_bits}
use lib.ListN.{length, get_or, take, drop, replicate}
use lib.Seq.{get_or-take}
use borrow.Author.Rules.{rules}
use Rattle.model.specs.declared.Rule.{Rule}
use Rattle.model.specs.Ratio.{zero_f}
use Rattle.model.specs.Sheet.{CellColumns}
use Rattle.order.proofs.Keyed.{keys_told}
use Rattle.cells.specs.Columns.{columns}
use Rattle.places.proofs.Table.{table_finds}
use Rattle.call.specs.Tables.{number_named, Numbered, Followed, Tabled}
use Rattle.call.proofs.Tabling.{table_fits, cut_within, cut_long, cut_kept, front_within, front_long, taken_at, front_at, tabled_of}
use Rattle.call.proofs.rules.run.Goals as goal
use Rattle.call.proofs.rules.run.Goals.{After-codes_for-codes, After-number_cells, After-number_regions, After-walk_cells}

-- an array of 0.0
abbrev blank : List Float
blank = replicate 1024 (of_bits binary64 0)

-- ---- the places

module _ (c : After-walk_cells) where
  abbrev cells : CellColumns
  cells =
      let a = c.args in
      columns a.rows.now a.cols.now a.kinds.now a.wraps.now a.nums.now a.ats.now a.lens.now

  -- how many cells and regions there are
  abbrev cell_count : ℕ
  cell_count = length c.args.rows.now

  abbrev region_count : ℕ
  region_count = length c.args.region_rows.now

  -- one for each region, and what is behind them
  abbrev places : List ℕ
  places = c.walk_cells.new.places

  abbrev places_rest : List ℕ
  places_rest = drop region_count (replicate 1024 0)

  places_cut : length (take region_count (replicate {A = ℕ} 1024 0)) ≡ region_count
  places_cut = cut_long region_count 0 c.requires.region_cols_value.1

  places_long : length places ≡ region_count
  places_long = c.walk_cells.auto.places ∙ places_cut

  followed : let a = c.args in Followed cells a.region_rows.now a.region_cols.now (places ++ places_rest)
  followed i h =
      let pre = c.requires in
      let room : region_count ≤ length (take region_count (replicate {A = ℕ} 1024 0)) = omega (arith, places_cut) in
      let fits = table_fits _ _ _ pre.cols_value.1 room in
      front_at region_count places places_rest places_long i 0 h
      ∙ ap (λ (t : List ℕ). get_or t i 0) c.walk_cells.ensures.places
      ∙ table_finds _ _ _ _ _ fits pre.cols_value.0 pre.region_cols_value.0 i h

-- ---- the numbers

module _ (c : After-number_cells) where
  abbrev walked : After-walk_cells
  walked = (goal.at.After-number_cells c).After-walk_cells

  -- one for each cell, and what is behind them
  abbrev floats : List Float
  floats = c.number_cells.new.floats

  abbrev floats_rest : List Float
  floats_rest = drop (cell_count walked) blank

  floats_cut : length (take (cell_count walked) blank) ≡ cell_count walked
  floats_cut = cut_long (cell_count walked) (of_bits binary64 0) c.requires.cols_value.1

  floats_long : length floats ≡ cell_count walked
  floats_long = c.number_cells.auto.floats ∙ floats_cut

  within : cell_count walked ≤ length (floats ++ floats_rest)
  within = front_within (cell_count walked) floats floats_rest floats_long

  abbrev numbers : List Float
  numbers = take (cell_count walked) (floats ++ floats_rest)

  size : cell_count walked ≡ length numbers
  size = front_long (cell_count walked) floats floats_rest floats_long

  numbered : Numbered (cells walked) numbers
  numbered j h =
      taken_at (cell_count walked) floats floats_rest floats_long j nan
      ∙ c.number_cells.ensures (cells walked).rows (cells walked).cols j (omega (arith, h, floats_cut))

module _ (c : After-number_regions) where
  abbrev made : After-number_cells
  made = (goal.at.After-number_regions c).After-number_cells

  abbrev values : List Float
  values = c.number_regions.new.values

  abbrev values_rest : List Float
  values_rest = drop (region_count (walked made)) blank

  values_cut : length (take (region_count (walked made)) blank) ≡ region_count (walked made)
  values_cut = cut_long (region_count (walked made)) (of_bits binary64 0) c.requires.region_cols_value.1

  values_long : length values ≡ region_count (walked made)
  values_long = c.number_regions.auto.values ∙ values_cut

  named : (i : ℕ) → i < region_count (walked made)
      → get_or (values ++ values_rest) i nan ≡ number_named (numbers made) (get_or (places (walked made) ++ places_rest (walked made)) i 0)
  named i h =
      let w = walked made in
      front_at (region_count w) values values_rest values_long i nan h ∙ c.number_regions.ensures i (omega (arith, h, values_cut))
      ∙ ap (number_named (numbers made)) (get_or-take (region_count w) (places w ++ places_rest w) i 0 h)

-- ---- all tables

module _ (c : After-codes_for-codes) where
  abbrev regions : After-number_regions
  regions = (goal.at.After-codes_for-codes c).After-number_regions

  -- they are right for each rule
  tabled : let n = regions in
      let w = walked (made n) in
      let a = c.args in
      (i : ℕ) (d : Rule) → i < c.outline-outline.result.count
      → Tabled (cells w) a.pool.now (get_or a.rules.records i d).kind a.region_rows.now a.region_cols.now
      (places w ++ places_rest w) (numbers (made n)) (values n ++ values_rest n) c.codes_for-codes.result
  tabled i d h =
      let n = regions in
      let w = walked (made n) in
      let told = c.outline-outline.ensures in
      tabled_of (cells w) _ _ _ _ _ (followed w) (numbered (made n)) (size (made n)) (named n) _ _ _
      (λ e. c.codes_for-codes.ensures.coded (cells w).cols (told.keyed ∙ keys_told c.args.rules i d (omega (arith, h, told.count)) e))

-- ---- the steps

pub slice_bounds-walk_cells-end : goal.slice_bounds-walk_cells-end
slice_bounds-walk_cells-end c = sym (cut_long _ 0 c.requires.region_cols_value.1)

pub slice_bounds-number_cells-end : goal.slice_bounds-number_cells-end
slice_bounds-number_cells-end c = sym (cut_long _ (of_bits binary64 0) c.requires.cols_value.1)

pub slice_bounds-places-end-2 : goal.slice_bounds-places-end-2
slice_bounds-places-end-2 c =
    let w = (goal.at.slice_bounds-places-end-2 c).After-walk_cells in
    front_within (region_count w) (places w) (places_rest w) (places_long w)

pub slice_bounds-number_regions-end : goal.slice_bounds-number_regions-end
slice_bounds-number_regions-end c =
    let w = (goal.at.slice_bounds-number_regions-end c).After-walk_cells in
    front_long (region_count w) (places w) (places_rest w) (places_long w)

pub slice_bounds-floats-end-2 : goal.slice_bounds-floats-end-2
slice_bounds-floats-end-2 c = within (goal.at.slice_bounds-floats-end-2 c).After-number_cells

pub slice_bounds-number_regions-end-2 : goal.slice_bounds-number_regions-end-2
slice_bounds-number_regions-end-2 c = size (goal.at.slice_bounds-number_regions-end-2 c).After-number_cells

pub slice_bounds-values-end : goal.slice_bounds-values-end
slice_bounds-values-end c = cut_within _ (of_bits binary64 0) c.requires.region_cols_value.1

pub slice_bounds-number_regions-end-3 : goal.slice_bounds-number_regions-end-3
slice_bounds-number_regions-end-3 c = sym (cut_long _ (of_bits binary64 0) c.requires.region_cols_value.1)

pub slice_bounds-run_rules-end : goal.slice_bounds-run_rules-end
slice_bounds-run_rules-end c =
    let w = (goal.at.slice_bounds-run_rules-end c).After-walk_cells in
    cut_kept (region_count w) 0 (places w) c.walk_cells.auto.places

pub slice_bounds-floats-end-3 : goal.slice_bounds-floats-end-3
slice_bounds-floats-end-3 c = within (goal.at.slice_bounds-floats-end-3 c).After-number_cells

pub slice_bounds-run_rules-end-2 : goal.slice_bounds-run_rules-end-2
slice_bounds-run_rules-end-2 c = size (goal.at.slice_bounds-run_rules-end-2 c).After-number_cells

pub slice_bounds-run_rules-end-3 : goal.slice_bounds-run_rules-end-3
slice_bounds-run_rules-end-3 c =
    let n = (goal.at.slice_bounds-run_rules-end-3 c).After-number_regions in
    cut_kept (region_count (walked (made n))) (of_bits binary64 0) (values n) c.number_regions.auto.values

pub run_rules-ran-requires : goal.run_rules-ran-requires
run_rules-ran-requires c =
    let n = (goal.at.run_rules-ran-requires c).After-number_regions in
    let w = walked (made n) in
    let told = c.outline-outline.ensures in
    let cols = c.requires.cols_value in
    let regions = c.requires.region_cols_value in
    let few : length c.codes_for-codes.result ≡ 1024 = search rules in record {
      order_value = (told.order, told.count, told.few);
      cols_value = (cols.0, cols.1, cols.2, omega (arith, cols.1, few));
      by_index = (c.codes_for-codes.ensures.small, size (made n), cols.3);
      region_cols_value = (
        regions.0,
        regions.1,
        regions.2,
        front_within (region_count w) (values n) (values_rest n) (values_long n),
      );
    }

pub returns : goal.returns
unfolding of_bits
returns c =
    let a = c.args in record {
      run = c.run_rules-ran.ensures.run a.kinds.now a.wraps.now a.nums.now a.ats.now a.lens.now
          (tabled (goal.at.returns c).After-codes_for-codes);
      scratch = c.fill.ensures.after (λ y h. h) ∙ ap (λ (n : ℕ). replicate n zero_f) c.run_rules-ran.auto.scratch;
    }
