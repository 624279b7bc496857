-- What the checks 1 to 5 say of a well-formed job that its text needs: the counts, the size of the pool, the length of the region columns, and each cell and
-- region. Assumes nothing.
use Prim.Native.Nat.{ℕ, ◌≤◌, ◌<◌}
use native.Mathlib.Omega.{arith}
use mathlib.Core.Path.{◌≡◌, refl}
use mathlib.Core.Bool.{Bool, true, false, ◌&&◌, ◌||◌, and-false, true≢false}
use mathlib.Core.List.{List}
use mathlib.Core.Option.{none}
use lib.Dec.{eqb, ltb}
use lib.ListN.{length, get_or}
use borrow.Author.Tests.{ltb-false, eqb-true, eqb-false, eq-eqb}
use Rattle.model.specs.Sheet.{CellColumns, max_row, max_col, max_cells, max_regions, max_rules, max_pool}
use Rattle.model.specs.Job.{
  Job,
  off_grid,
  outside,
  bad_value,
  bad_cell_at,
  bad_region_at,
  cell_count,
  region_count,
  lengths_differ,
  too_many,
  refuse_if,
  malformed,
}
use Rattle.laws.specs.Demands.{WellFormed}
use Rattle.laws.proofs.First.{first_from_none}
use Rattle.laws.proofs.Apart.{first_of_none, refuse_at_none}

-- ---- none of several

refuse_if_none : (j : Job) (number place : ℕ) (bad : Bool) → refuse_if j number place bad ≡ none → bad ≡ false
unfolding refuse_if
refuse_if_none j number place true e = cc
refuse_if_none j number place false e = refl

neither : (a b : Bool) → a || b ≡ false → (a ≡ false) × (b ≡ false)
neither true b e = (cc, cc)
neither false b e = (refl, e)

-- ---- cells

pub record OnGrid (r c : ℕ) : Type 0 where
  pub row : r ≤ max_row
  pub col : c ≤ max_col

on_grid : (row col : ℕ) → off_grid row col ≡ false → OnGrid row col
unfolding off_grid
on_grid row col e =
    let n = neither (ltb max_row row) (ltb max_col col) e in
    record { row = ltb-false max_row row n.0; col = ltb-false max_col col n.1 }

-- the kinds from 1 to 5, and 0 or 1 in a bool's length
pub record FormedValue (kind len : ℕ) : Type 0 where
  pub low : 1 ≤ kind
  pub high : kind ≤ 5
  pub bool : kind ≡ 4 → len ≤ 1

formed_value : (pool : List ℕ) (kind at len : ℕ) → bad_value pool kind at len ≡ false → FormedValue kind len
unfolding bad_value
formed_value pool kind at len e =
    let text = eqb kind 3 && outside pool (record { at = at; len = len }) in
    let n = neither (eqb kind 0 || ltb 5 kind || text) (eqb kind 4 && ltb 1 len) e in
    let m = neither (eqb kind 0) (ltb 5 kind) (neither (eqb kind 0 || ltb 5 kind) text n.0).0 in
    record {
      low = omega (arith, eqb-false kind 0 m.0);
      high = ltb-false 5 kind m.1;
      bool = λ is. ltb-false 1 len (by (eqb kind 4) (eq-eqb kind 4 is) n.1);
    }
  where
    by : (b : Bool) → b ≡ true → b && ltb 1 len ≡ false → ltb 1 len ≡ false
    by true t h = h
    by false t h = cc

pub record FormedCell (c : CellColumns) (i : ℕ) : Type 0 where
  pub place : OnGrid (get_or c.rows i 0) (get_or c.cols i 0)
  pub value : FormedValue (get_or c.kinds i 0) (get_or c.lens i 0)

formed_cell : (pool : List ℕ) (c : CellColumns) (i : ℕ) → bad_cell_at pool c i ≡ false → FormedCell c i
unfolding bad_cell_at
formed_cell pool c i e =
    let off = off_grid (get_or c.rows i 0) (get_or c.cols i 0) in
    let bad = bad_value pool (get_or c.kinds i 0) (get_or c.ats i 0) (get_or c.lens i 0) in
    let n = neither off bad e in
    record {
      place = on_grid (get_or c.rows i 0) (get_or c.cols i 0) n.0;
      value = formed_value pool (get_or c.kinds i 0) (get_or c.ats i 0) (get_or c.lens i 0) n.1;
    }

-- ---- the job

pub record Formed (j : Job) : Type 0 where
  pub cells : cell_count j ≤ max_cells
  pub regions : region_count j ≤ max_regions
  pub rules : j.rules.number ≤ max_rules
  pub pool : length j.pool ≤ max_pool
  pub columns : length j.region_cols ≡ region_count j
  pub cell : (i : ℕ) → i < cell_count j → FormedCell j.cells i
  pub region : (i : ℕ) → i < region_count j → OnGrid (get_or j.region_rows i 0) (get_or j.region_cols i 0)

same_columns : (j : Job) → lengths_differ j ≡ false → length j.region_cols ≡ region_count j
unfolding lengths_differ
same_columns j e = go (eqb (length j.region_cols) (region_count j)) refl
  where
    go : (b : Bool) → eqb (length j.region_cols) (region_count j) ≡ b → length j.region_cols ≡ region_count j
    go true is = eqb-true _ _ is
    go false is = absurd (true≢false (simp (is, and-false) at e))

pub formed : (j : Job) → WellFormed j → Formed j
unfolding malformed too_many bad_region_at
formed j e =
    let one = first_of_none _ _ e in
    let two = first_of_none _ _ one.1 in
    let three = first_of_none _ _ two.1 in
    let four = first_of_none _ _ three.1 in
    let Cells-over = ltb max_cells (cell_count j) in
    let regions-over = ltb max_regions (region_count j) in
    let rules-over = ltb max_rules j.rules.number in
    let over = Cells-over || regions-over || rules-over in
    let few = neither over (ltb max_pool (length j.pool)) (refuse_if_none j 2 0 (too_many j) two.0) in
    let many = neither (Cells-over || regions-over) rules-over few.0 in
    let counts = neither Cells-over regions-over many.0 in
    let cells = (first_from_none _ 0 _).0 (refuse_at_none j 3 _ three.0) in
    let regions = (first_from_none _ 0 _).0 (refuse_at_none j 3 _ four.0) in
    record {
      cells = ltb-false max_cells _ counts.0;
      regions = ltb-false max_regions _ counts.1;
      rules = ltb-false max_rules _ many.1;
      pool = ltb-false max_pool _ few.1;
      columns = same_columns j (refuse_if_none j 1 0 _ one.0);
      cell = λ i h. formed_cell j.pool j.cells i (cells i (omega arith) (omega arith));
      region = λ i h. on_grid _ _ (regions i (omega arith) (omega arith));
    }
