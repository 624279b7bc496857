-- Each claim of specs/Following.antt, held. Assumes nothing.
use Rattle.std.specs.Prelude.{None}
use Prim.Native.Nat.{ℕ, ◌≤◌, ◌<◌}
use native.Mathlib.Omega.{arith}
use mathlib.Core.Path.{◌≡◌, refl, sym, ap, ◌∙◌}
use mathlib.Core.Logic.{◌⊎◌, inl, inr, ◌↔◌}
use mathlib.Core.Bool.{Bool, true, false}
use mathlib.Core.List.{List, [], ◌∷◌}
use lib.ListN.{length, get_or}
use borrow.Author.Tests.{le-leb}
use Rattle.model.specs.declared.CellCoordinate.{CellCoordinate}
use Rattle.model.specs.Sheet.{CellColumns, same_coordinate, cell_from, regions_from}
use Rattle.model.specs.Job.{rises, first_from, falls_at, first_fall}
use Rattle.laws.proofs.Apart.{columns_rise}
use Rattle.laws.proofs.Lengths.{regions_length}
use Rattle.cells.specs.Columns.{coordinate_at, entry_at}
use Rattle.cells.proofs.Laws.{entry_named, named_none, named_found}
use Rattle.cells.proofs.Standing.{entry_stands}
use Rattle.places.specs.Walk.{passed, entry_here, comparisons_for, walk_from, walk, walked, table_of}
use Rattle.places.specs.Reached.{count, any_of}
use Rattle.places.proofs.Bounds.{walk_few, walk_fewer}
use Rattle.places.proofs.Reaching.{walk_exactly, walk_reached}
use Rattle.places.proofs.Table.{fits_both, table_finds}
use Rattle.claims.specs.Following as Following
use Rattle.claims.specs.Following.{Sides, cells_on, regions_on, Rising, Found, Shown, Most, Fewest}
use Rattle.claims.proofs.Walks.{refused_other, unfit, fits, refused_unfit, compared_fit, is_compared, table_long, table_behind}
use Rattle.claims.proofs.Walks.{zero_if_refused}

-- ---- what the contract promises

pub nothing_asked_of_walk : Following.NothingAsked
nothing_asked_of_walk κs a = tt

pub walk_determined : Following.Determined
walk_determined w s before after a e = (e.0, e.1)

pub walk_possible : Following.Possible
walk_possible w s before =
    record {
      answer = walked (cells_on s) (regions_on s) (length before);
      after = table_of (cells_on s) (regions_on s) (length before);
      ends = (refl, refl);
    }

-- ---- refused, or compared

pub walk_refused_exactly : Following.RefusedExactly
walk_refused_exactly w s before after a e = go (fits s (length before)) refl
  where
    go : (b : Bool) → fits s (length before) ≡ b
        → (a ≡ None) ↔ ((length before < length s.region_rows) ⊎ (65_535 < length s.cells.rows))
    go true h = (
      λ r. absurd (refused_other _ (sym (e.0 ∙ compared_fit s (length before) h) ∙ r)),
      λ u. absurd (over u),
    )
      where
        over : (length before < length s.region_rows) ⊎ (65_535 < length s.cells.rows) → ⊥
        over (inl x) = omega (arith, x, (fits_both (length s.cells.rows) (length s.region_rows) (length before) h).1)
        over (inr x) = omega (arith, x, (fits_both (length s.cells.rows) (length s.region_rows) (length before) h).0)
    go false h = (λ r. unfit _ _ _ h, λ u. e.0 ∙ refused_unfit s (length before) h)

pub walk_demand_one : Following.DemandOne
walk_demand_one w s before after a e = (
  ap length e.1 ∙ table_long s (length before),
  λ r. e.1 ∙ zero_if_refused s (length before) (sym e.0 ∙ r),
  λ i past. ap (λ (t : List ℕ). get_or t i 0) e.1 ∙ table_behind s (length before) i past,
)

-- ---- the bounds

abbrev lengths : (s : Sides) → (length (cells_on s) ≡ length s.cells.rows) × (length (regions_on s) ≡ length s.region_rows)
lengths s = (
  regions_length s.cells.rows s.cells.cols 0 (length s.cells.rows),
  regions_length s.region_rows s.region_cols 0 (length s.region_rows),
)

pub walk_at_most : Following.AtMost
walk_at_most w s before after n e =
    omega (arith, (is_compared s (length before) n e.0).1, walk_few (cells_on s) (regions_on s), (lengths s).0, (lengths s).1)

pub walk_one_less : Following.OneLess
walk_one_less w s before after n e =
    omega (arith, (is_compared s (length before) n e.0).1, walk_fewer (cells_on s) (regions_on s), (lengths s).0, (lengths s).1)

pub walk_at_least : Following.AtLeast
walk_at_least w s before after n r e =
    omega (
      arith,
      (is_compared s (length before) n e.0).1,
      walk_reached s.cells.rows s.cells.cols s.region_rows s.region_cols r.cells r.regions,
    )

pub walk_counts_exactly : Following.Exactly
walk_counts_exactly w s before after n r e =
    (is_compared s (length before) n e.0).1
    ∙ walk_exactly s.cells.rows s.cells.cols s.region_rows s.region_cols r.cells r.regions

-- ---- the cells that are found

pub jobs_rise : Following.JobsRise
jobs_rise j well = record { cells = (columns_rise j well).0; regions = (columns_rise j well).1 }

module _ (c : CellColumns) (at : CellCoordinate) where
  abbrev entry : ℕ
  entry = entry_at c.rows c.cols at

  -- an entry names what `cell_at` finds
  pub entry_found : Found c at (entry_at c.rows c.cols at)
  unfolding cell_from
  entry_found =
      record {
        nothing = λ e. sym (entry_named c at) ∙ named_none c e;
        within = λ place e. (entry_stands c.rows c.cols at place e).0;
        stands = λ place e. (entry_stands c.rows c.cols at place e).1;
        cell = λ place e.
            sym (entry_named c at)
            ∙ named_found c {entry = entry} {i = place} (omega (arith, e)) (omega (arith, e))
            (entry_stands c.rows c.cols at place e).0;
      }

pub walk_finds_each : Following.Finds
walk_finds_each w s before after n r e i h =
    let fit = (is_compared s (length before) n e.0).0 in
    let is = ap (λ (t : List ℕ). get_or t i 0) e.1
    ∙ table_finds s.cells.rows s.cells.cols s.region_rows s.region_cols (length before) fit r.cells r.regions i h in
    rw is (entry_found s.cells (coordinate_at s.region_rows s.region_cols i))

-- ---- the bounds are met

computed : Unit {0}
unfolding same_coordinate rises first_from falls_at first_fall regions_from passed entry_here comparisons_for walk_from count any_of
computed = tt

-- three cells, and these regions
abbrev three : List ℕ → List ℕ → Sides
three rows cols =
    record {
      cells = record { rows = 0 ∷ 2 ∷ 4 ∷ []; cols = 1 ∷ 0 ∷ 4 ∷ []; kinds = []; wraps = []; nums = []; ats = []; lens = [] };
      region_rows = rows;
      region_cols = cols;
    }

module _ (region_rows region_cols : List ℕ) where
  abbrev sides : Sides
  sides = three region_rows region_cols

  three_fits : (before : List ℕ) → length region_rows ≤ length before → fits sides (length before) ≡ true
  three_fits before h = rw (le-leb (length region_rows) (length before) h)

  three_shown : Rising sides → Shown sides (walk (cells_on sides) (regions_on sides)).comparisons
  three_shown r =
      record {
        rising = r;
        cells = refl;
        compares = λ w before after a h e. e.0 ∙ compared_fit sides (length before) (three_fits before h);
      }

pub most_compared : Most
unfolding computed
most_compared =
    let rows : List ℕ = 0 ∷ 2 ∷ 4 ∷ [] in
    let cols : List ℕ = 1 ∷ 0 ∷ 4 ∷ [] in
    record { sides = three rows cols; regions = refl; shown = three_shown rows cols (record { cells = refl; regions = refl }) }

pub fewest_compared : Fewest
unfolding computed
fewest_compared =
    record {
      sides = three (5 ∷ []) (0 ∷ []);
      regions = refl;
      reaches = refl;
      shown = three_shown (5 ∷ []) (0 ∷ []) (record { cells = refl; regions = refl });
    }
