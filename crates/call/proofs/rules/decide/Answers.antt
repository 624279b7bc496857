-- `call::rules::decide` meets its contract: the bands of the rule's rows, the cells in range, the charges ahead of the regions, the plan
-- where they are accepted, and by the plan a rule without outcomes or the hits of its test. Assumes nothing.
use Rattle.std.specs.Prelude.{Ok}
use Prim.Native.Nat.{ℕ}
use native.Mathlib.Omega.{arith}
use mathlib.Core.Path.{◌≡◌, sym, ◌∙◌}
use mathlib.Core.List.{List}
use lib.ListN.{length}
use Rattle.charging.specs.Charge.{Charged}
use Rattle.charging.specs.declared.Counter.{Counter}
use Rattle.model.specs.Sheet.{Sheet, CellColumns}
use Rattle.model.specs.Rule.{plan}
use Rattle.cells.specs.Columns.{columns}
use Rattle.hits.specs.Hits.{known}
use Rattle.hits.proofs.Finding.{Fitting, fitting}
use Rattle.turns.specs.Step.{ahead_of_regions}
use Rattle.turns.specs.Turns.{sheet_in}
use Rattle.turns.specs.Bands.{BandOf}
use Rattle.turns.proofs.Bands.{rows_rise}
use Rattle.call.specs.Tables.{Banded, CellsCounted, Tabled}
use Rattle.call.proofs.Deciding.{counts_duplicates, fits_kept, by_deferred, by_skipped, by_tested}
use Rattle.call.proofs.Parting.{accepted_before}
use Rattle.call.proofs.rules.decide.Goals as goal
use Rattle.call.proofs.rules.decide.Goals.{After-plan_within-plan, Start}

-- the tables fit as they come
fit : (c : Start) → let a = c.args in
    Fitting 0 (length a.region_rows.now) (known a.values.now a.firsts.now a.seconds.now a.founds.now)
    a.region_cols.now a.flags.now (length a.hits.now)
fit c = fitting _ _ _ _ _ _ c.requires.hits_value

-- ---- the plan

module _ (c : After-plan_within-plan) where
  among : let a = c.args in
      let r = c.band_of-regions.result in
      BandOf a.rule.range a.region_rows.now r.from r.to
  among = c.band_of-regions.ensures

  abbrev spent : Charged
  spent = c.charge_after-spent.result

  module _ (kinds wraps nums ats lens : List ℕ) where
    abbrev cells : CellColumns
    cells = columns c.args.rows.now c.args.cols.now kinds wraps nums ats lens

    abbrev sheet : Sheet
    sheet =
        let a = c.args in
        sheet_in cells a.region_rows.now a.region_cols.now a.pool.now a.sheet

    abbrev AsTabled : Type 0
    AsTabled =
        let a = c.args in
        Tabled cells a.pool.now a.rule.kind a.region_rows.now a.region_cols.now a.places.now a.floats.now
        a.values.now a.codes.now

    banded : let r = c.band_of-band.result in Banded c.args.rule.range cells r.from r.to
    banded = record { rise = c.requires.cols_value.0; few = c.requires.cols_value.1; band = c.band_of-band.ensures }

    abbrev AsCounted : Type 0
    AsCounted =
        let r = c.args.rule in
        CellsCounted r.kind r.range cells c.cells_asked-inside.result

    counted : (n : Counter) → c.args.charged ≡ Ok n → AsCounted
    counted n e = c.cells_asked-inside.ensures _ kinds wraps nums ats lens n e c.band_of-band.ensures

    ahead : let a = c.args in spent ≡ ahead_of_regions sheet a.rule a.limit a.charged
    ahead = c.charge_after-spent.ensures cells _ _ _ counted

    -- where the charges ahead of the regions are accepted, those before them were
    counted_within : (n : Counter) → spent ≡ Ok n → AsCounted
    counted_within n e = let first = accepted_before _ _ n (sym ahead ∙ e) in counted first.0 first.1

    planned : AsTabled → (n : Counter) → spent ≡ Ok n → c.plan_within-plan.result ≡ plan sheet c.args.rule
    planned tabled n e =
        c.plan_within-plan.ensures.plan kinds wraps nums ats lens _ _ _ n e banded (counted_within n e) tabled.numbered tabled.coded

-- ---- the steps

pub band_of-band-requires : goal.band_of-band-requires
band_of-band-requires c = rows_rise _ _ c.requires.cols_value.0

pub cells_asked-inside-requires : goal.cells_asked-inside-requires
cells_asked-inside-requires c =
    let pre = c.requires.cols_value in
    let band = c.band_of-band.ensures in
    (band.ordered, omega (arith, band.within, pre.1), omega (arith, band.within, pre.2))

pub band_of-regions-requires : goal.band_of-regions-requires
band_of-regions-requires c = rows_rise _ _ c.requires.region_cols_value.0

pub plan_within-plan-requires : goal.plan_within-plan-requires
plan_within-plan-requires c =
    let cells = c.requires.cols_value in
    let tables = c.requires.by_index in
    let band = c.band_of-band.ensures in
    let regions = c.band_of-regions.ensures in
    let most = band.within in
    let fits = fit (goal.at.plan_within-plan-requires c).Start in record {
      cols_value = (cells.0, cells.2, most, band.ordered, omega (arith, most, cells.1), omega (arith, most, cells.3));
      region_cols_value = (
        c.requires.region_cols_value.0,
        fits.for_cols,
        regions.within,
        regions.ordered,
        omega (arith, regions.within, fits.for_founds),
      );
      by_index = (tables.0, omega (arith, most, tables.1), omega (arith, most, tables.2), tables.3);
    }

pub test_regions-requires : goal.test_regions-requires
test_regions-requires c =
    let a = c.args in
    let cells = c.requires.cols_value in
    let regions = c.requires.region_cols_value in record {
      cols_value = (cells.0, cells.1, c.requires.by_index.1, cells.2);
      region_cols_value = (regions.0, c.band_of-regions.ensures, regions.1);
      hits_value = fits_kept 0 (length a.region_rows.now) a.values.now a.firsts.now a.seconds.now a.founds.now
          c.plan_within-plan.new.founds a.region_cols.now a.flags.now
          (length a.hits.now) c.plan_within-plan.auto.founds c.requires.hits_value;
    }

pub returns-in-Deferred : goal.returns-in-Deferred
returns-in-Deferred c =
    let at = (goal.at.returns-in-Deferred c).After-plan_within-plan in
    let a = c.args in
    let none = c.untested.ensures in record {
      decided = λ kinds wraps nums ats lens tabled.
          by_deferred _ _ _ _ _ _ _ _ (ahead at kinds wraps nums ats lens) _ (planned at kinds wraps nums ats lens tabled) _ _ _
          c.in-Deferred.is (none.decided a.limit a.rule.imported a.values.now a.hits.now);
      few = omega (arith, none.none);
      hits = λ k h. omega (arith, h, none.none);
    }

pub returns-in-Skipped : goal.returns-in-Skipped
returns-in-Skipped c =
    let at = (goal.at.returns-in-Skipped c).After-plan_within-plan in
    let a = c.args in
    let none = c.untested-in-Skipped.ensures in record {
      decided = λ kinds wraps nums ats lens tabled.
          by_skipped _ _ _ _ _ _ _ _ (ahead at kinds wraps nums ats lens) _ (planned at kinds wraps nums ats lens tabled) _ _ _
          c.in-Skipped.is (none.decided a.limit a.rule.imported a.values.now a.hits.now);
      few = omega (arith, none.none);
      hits = λ k h. omega (arith, h, none.none);
    }

pub returns-in-Tested : goal.returns-in-Tested
returns-in-Tested c =
    let at = (goal.at.returns-in-Tested c).After-plan_within-plan in
    let a = c.args in
    let rows = a.region_rows.now in
    let cols = a.region_cols.now in
    let test = c.in-Tested.test in
    let is = c.in-Tested.is in
    let within = c.plan_within-plan.ensures.refused test is in record {
      decided = λ kinds wraps nums ats lens tabled.
          let duplicates = counts_duplicates (sheet at kinds wraps nums ats lens) a.rule test
          (sym is ∙ planned at kinds wraps nums ats lens tabled within.0 within.1) in
          by_tested (sheet at kinds wraps nums ats lens) a.rule a.limit rows cols a.flags.now a.charged (spent at)
          (ahead at kinds wraps nums ats lens) c.plan_within-plan.result (planned at kinds wraps nums ats lens tabled) a.values.now _
          c.test_regions.result test is
          (c.test_regions.ensures.decided kinds wraps nums ats lens tabled.numbered tabled.valued
          (λ keys. c.plan_within-plan.ensures.founds kinds wraps nums ats lens a.pool.now test
          (banded at kinds wraps nums ats lens) (among at) (duplicates keys)
          (counted_within at kinds wraps nums ats lens within.0 within.1) (tabled.coded (duplicates keys)) tabled.followed is));
      few = c.test_regions.ensures.few;
      hits = c.test_regions.ensures.hits;
    }
