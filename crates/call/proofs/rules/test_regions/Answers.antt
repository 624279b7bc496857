-- `call::rules::test_regions` meets its contract. Where all regions are stopped none is asked and none is painted. Else the band has room
-- at the front of the table of hits, by which the hits are few and each is a region, whatever is known of them. By the tables of the sheet
-- what is found in the band is what the test says of all regions. Assumes nothing.
use Rattle.std.specs.Prelude.{Option, Some, None, IfSome}
use Prim.Native.Nat.{ℕ, ◌+◌, ◌-◌, ◌≤◌, ◌<◌}
use native.Mathlib.Omega.{arith}
use mathlib.Core.Path.{◌≡◌, refl, sym, ap, ◌∙◌}
use mathlib.Core.Bool.{true}
use mathlib.Core.List.{List, ◌++◌}
use mir.Syntax.{w64}
use mir.Val.{Fits}
use lib.ListN.{length, take, drop}
use lib.Seq.{length-take-le}
use Rattle.cells.specs.Columns.{columns}
use Rattle.model.specs.Sheet.{regions_from}
use Rattle.hits.specs.declared.Found.{Found}
use Rattle.hits.specs.Hits.{Known, known, fits_hits, live_from}
use Rattle.hits.proofs.Finding.{Fitting, fitting}
use Rattle.turns.specs.Turns.{sheet_in}
use Rattle.turns.specs.Bands.{BandOf}
use Rattle.call.proofs.Rulewise.{fits_hits_lem}
use Rattle.call.proofs.Deciding.{known_by, found_within, found_few, found_front, found_below, found_decides, stopped_decides}
use Rattle.call.proofs.rules.test_regions.Goals as goal
use Rattle.call.proofs.rules.test_regions.Goals.{After-find_operands, After-find_within-found, Start}

when_some : (o : Option ℕ) (n : ℕ) → ((i : ℕ) → o ≡ Some i → i < n) → IfSome o (λ i. i < n)
when_some (Some i) n h = h i refl
when_some None n h = tt

-- ---- as it comes

module _ (c : Start) where
  fit : let a = c.args in
      Fitting 0 (length a.region_rows.now) (known a.values.now a.firsts.now a.seconds.now a.founds.now)
      a.region_cols.now a.flags.now (length a.hits.now)
  fit = fitting _ _ _ _ _ _ c.requires.hits_value

  band : let a = c.args in BandOf a.rule.range a.region_rows.now a.regions.from a.regions.to
  band = c.requires.region_cols_value.1

  -- one more than the regions of the band
  abbrev room : ℕ
  room = c.args.regions.to - c.args.regions.from + 1

  roomy : room ≤ length c.args.hits.now
  roomy = omega (arith, band.ordered, band.within, fit.within)

  small : Fits w64 room
  small = omega (arith, band.within, fit.few)

  cut : length (take room c.args.hits.now) ≡ room
  cut = length-take-le room c.args.hits.now roomy

-- ---- what is known

module _ (c : After-find_operands) where
  abbrev begun : Start
  begun = (goal.at.After-find_operands c).Start

  abbrev table : Known
  table = known c.args.values.now c.find_operands.new.firsts c.find_operands.new.seconds c.args.founds.now

  abbrev large : ℕ
  large = length (take (room begun) c.args.hits.now)

  fits : let a = c.args in
      fits_hits a.regions.from a.regions.to table a.region_cols.now a.flags.now large ≡ true
  fits =
      let a = c.args in
      let given = fit begun in
      let most = (band begun).within in
      let long = c.find_operands.auto in
      fits_hits_lem a.regions.from a.regions.to table a.region_cols.now a.flags.now large
      (record {
        ordered = (band begun).ordered;
        few = omega (arith, most, given.few);
        within = omega (arith, cut begun);
        for_cols = omega (arith, most, given.for_cols);
        for_flags = omega (arith, most, given.for_flags);
        for_values = omega (arith, most, given.for_values);
        for_firsts = omega (arith, most, given.for_firsts, long.firsts);
        for_seconds = omega (arith, most, given.for_seconds, long.seconds);
        for_founds = omega (arith, most, given.for_founds);
      })

-- ---- what is found

module _ (c : After-find_within-found) where
  abbrev meaning : After-find_operands
  meaning = (goal.at.After-find_within-found c).After-find_operands

  abbrev start : Start
  start = (goal.at.After-find_within-found c).Start

  abbrev found : Found
  found = c.find_within-found.result

  -- the table of hits
  abbrev page : List ℕ
  page = c.find_within-found.new.hits

  abbrev rest : List ℕ
  rest = drop (room start) c.args.hits.now

  within : (at : ℕ) → found.unresolved ≡ Some at → at < length c.args.flags.now
  within at some =
      let a = c.args in
      omega (
        arith,
        (band start).within,
        (fit start).for_flags,
        found_within (table meaning) a.rule.range a.test a.rule.imported a.region_cols.now a.flags.now
            a.regions.from a.regions.to found (c.find_within-found.ensures.found a.rule.imported) (band start).ordered at
            some,
      )

-- ---- the steps

pub returns-then-alive-eq0 : goal.returns-then-alive-eq0
returns-then-alive-eq0 c =
    let a = c.args in
    let rows = a.region_rows.now in
    let cols = a.region_cols.now in
    let flags = a.flags.now in
    let found = c.nothing_found.result in
    let is = c.nothing_found.ensures in
    let charged = c.charge_found.ensures in
    let no-hits : c.charge_found.result.count ≡ 0 = omega (arith, charged.few, ap (λ (f : Found). f.count) is) in
    let none : live_from flags 0 (length rows) ≡ 0 = sym c.requires.region_cols_value.2 ∙ c.if-alive-eq0.true in record {
      decided = λ kinds wraps nums ats lens numbered valued counted.
          let cells = columns a.rows.now a.cols.now kinds wraps nums ats lens in
          let sheet = sheet_in cells rows cols a.pool.now a.sheet in
          stopped_decides sheet a.rule a.test rows cols flags none found is a.values.now a.hits.now a.limit a.charged
          c.charge_found.result (λ os. charged.decided os a.rule.imported a.values.now a.hits.now);
      few = omega (arith, no-hits);
      hits = λ k h. omega (arith, h, no-hits);
    }

pub find_operands-requires : goal.find_operands-requires
find_operands-requires c =
    let begun = (goal.at.find_operands-requires c).Start in record {
      cols_value = c.requires.cols_value;
      band_of = (band begun, (fit begun).for_cols, (fit begun).for_values, (fit begun).for_firsts, (fit begun).for_seconds);
    }

pub overflow_sub-regions : goal.overflow_sub-regions
overflow_sub-regions c = (band (goal.at.overflow_sub-regions c).Start).ordered

pub overflow_add-regions : goal.overflow_add-regions
overflow_add-regions c = small (goal.at.overflow_add-regions c).Start

pub slice_bounds-find_within-end : goal.slice_bounds-find_within-end
slice_bounds-find_within-end c = roomy (goal.at.slice_bounds-find_within-end c).Start

pub slice_bounds-find_within-end-2 : goal.slice_bounds-find_within-end-2
slice_bounds-find_within-end-2 c = sym (cut (goal.at.slice_bounds-find_within-end-2 c).Start)

pub find_within-found-requires : goal.find_within-found-requires
find_within-found-requires c =
    let begun = (goal.at.find_within-found-requires c).Start in record {
      cols_value = (c.requires.region_cols_value.0, (fit begun).for_cols, (fit begun).few, (band begun).within);
      hits_value = fits (goal.at.find_within-found-requires c).After-find_operands;
    }

pub asked_of-requires : goal.asked_of-requires
asked_of-requires c =
    let e = (goal.at.asked_of-requires c).After-find_within-found in
    when_some (found e).unresolved (length c.args.flags.now) (within e)

pub returns : goal.returns
returns c =
    let at = (goal.at.returns c).After-find_within-found in
    let begun = start at in
    let a = c.args in
    let from = a.regions.from in
    let to = a.regions.to in
    let range = a.rule.range in
    let imported = a.rule.imported in
    let rows = a.region_rows.now in
    let cols = a.region_cols.now in
    let flags = a.flags.now in
    let values = a.values.now in
    let hits = page at ++ rest at in
    let is = c.find_within-found.ensures.found imported in
    let held = c.find_within-found.ensures.hits imported in
    let most : to - from ≤ large (meaning at) = omega (arith, cut begun) in
    let few = c.charge_found-2.ensures.few in
    let count = found_few (table (meaning at)) range a.test imported cols flags from to (found at) is in record {
      decided = λ kinds wraps nums ats lens numbered valued counted.
          let cells = columns a.rows.now a.cols.now kinds wraps nums ats lens in
          let sheet = sheet_in cells rows cols a.pool.now a.sheet in
          let meant = c.find_operands.ensures in
          let knows = known_by cells a.pool.now a.sheet (regions_from rows cols 0 (length rows)) range a.test rows cols (table (meaning at))
          valued (meant.first kinds wraps nums ats lens values a.founds.now numbered valued)
          (meant.second kinds wraps nums ats lens values a.founds.now numbered valued) counted in
          found_decides sheet a.rule a.test rows cols flags (table (meaning at)) knows (band begun) (found at) is
          a.alive c.asked_of.result c.requires.region_cols_value.2 c.asked_of.ensures hits
          (found_front (table (meaning at)) range a.test imported cols flags from to (found at) is (large (meaning at)) most (page at)
          (rest at) held) a.limit a.charged c.charge_found-2.result (λ os. c.charge_found-2.ensures.decided os imported values hits);
      few = omega (arith, few, count, (band begun).within);
      hits = λ k h. omega (
        arith,
        (band begun).within,
        found_below (table (meaning at)) range a.test imported cols flags from to (found at) is (large (meaning at)) most (page at)
            (rest at) held (band begun).ordered k (omega (arith, h, few)),
      );
    }
