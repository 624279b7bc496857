-- `call::picked::find_listed` meets its contract. The regions of the list have their entries in the short columns, so that what is found
-- there is told of them, and the places of the hits go back to the regions. Assumes nothing.
use Prim.Native.Nat.{ℕ, ◌-◌, ◌≤◌, ◌<◌}
use native.Mathlib.Nat.{sub-zero}
use native.Mathlib.Omega.{arith}
use mathlib.Core.Path.{◌≡◌, sym, ap, ◌∙◌}
use mathlib.Core.Bool.{Bool, true}
use mathlib.Core.List.{List}
use lib.Ieee.{nan}
use lib.ListN.{length, get_or, take}
use lib.Seq.{length-take-le, get_or-take}
use Rattle.memory.specs.Memory.{page_of}
use Rattle.hits.specs.declared.Found.{Found}
use Rattle.hits.specs.Hits.{Known, known, fits_hits}
use Rattle.hits.proofs.Finding.{Fitting, fitting, never_unfit}
use Rattle.call.proofs.Rulewise.{fits_hits_lem}
use Rattle.call.proofs.Listing.{Back, told_back, listed_few, listed_below}
use Rattle.call.proofs.picked.find_listed.Goals as goal
use Rattle.call.proofs.picked.find_listed.Goals.{After-find_hits, In-Some, Start}

-- ---- as it comes

module _ (c : Start) where
  abbrev longs : Known
  longs = let a = c.args in known a.values.now a.firsts.now a.seconds.now a.founds.now

  fit : let a = c.args in Fitting a.band.from a.band.to longs a.cols.now a.flags.now (length a.hits.now)
  fit = fitting _ _ _ _ _ _ c.requires.hits_value

  -- the list picks from a column that has the regions of the band
  picks : (n : ℕ) → c.args.band.to ≤ n
      → ((k : ℕ) → k < length c.args.list.now → get_or c.args.list.now k 0 < n) × (length c.args.list.now ≤ 128)
  picks n l =
      let a = c.args in (
        λ k h. omega (arith, listed_below a.range a.cols.now a.band.from a.band.to c.requires.list_value.0 k h fit.ordered),
        c.requires.list_value.1,
      )

  few : length c.args.list.now < length c.args.hits.now
  few =
      let a = c.args in
      omega (arith, listed_few a.range a.cols.now a.band.from a.band.to c.requires.list_value.0, fit.within)

-- ---- what is found

module _ (c : After-find_hits) where
  abbrev start : Start
  start = (goal.at.After-find_hits c).Start

  abbrev shorts : Known
  shorts =
      known c.pick-3.new.short c.pick_if.new.short c.pick_if-2.new.short c.pick_if-3.new.short

  abbrev cols : List ℕ
  cols = c.pick-2.new.short

  abbrev flags : List ℕ
  flags = c.pick.new.short

  abbrev page : List ℕ
  page = c.find_hits.new.hits

  abbrev list : List ℕ
  list = start.args.list.now

  page_long : length page ≡ 129
  page_long = c.find_hits.auto.hits

  abbrev fitted : Bool
  fitted = fits_hits 0 (length list) shorts cols flags 129

  fits : fitted ≡ true
  fits =
      let small = c.requires.list_value.1 in
      fits_hits_lem 0 (length list) shorts cols flags 129
      (record {
        ordered = omega arith;
        few = omega arith;
        within = omega arith;
        for_cols = omega (arith, c.pick-2.auto.short);
        for_flags = omega (arith, c.pick.auto.short);
        for_values = omega (arith, c.pick-3.auto.short);
        for_firsts = omega (arith, c.pick_if.auto.short);
        for_seconds = omega (arith, c.pick_if-2.auto.short);
        for_founds = omega (arith, c.pick_if-3.auto.short);
      })

module _ (c : In-Some) where
  abbrev at : After-find_hits
  at = (goal.at.In-Some c).After-find_hits

  abbrev found : Found
  found = c.in-Some.found

  back : let a = (start at).args in
      Back (shorts at) (longs (start at)) a.range a.test (cols at) (flags at) a.cols.now a.flags.now a.band.from a.band.to found
      (page at) (list at)
  back =
      let a = (start at).args in
      let small = c.requires.list_value.1 in
      told_back (shorts at) (longs (start at)) a.range a.test (cols at) (flags at) a.cols.now a.flags.now a.band.from a.band.to found
      (page at) (fit (start at)).ordered 129 c.requires.list_value.0
      (record {
        value = λ k. c.pick-3.ensures k nan;
        first = λ looked k. c.pick_if.ensures (c.looks_at_operands-operands.ensures ∙ looked) k nan;
        second = λ looked k. c.pick_if-2.ensures (c.looks_at_operands-operands.ensures ∙ looked) k nan;
        found = λ looked k. c.pick_if-3.ensures (c.counts_keys.ensures ∙ looked) k 0;
        col = λ k. c.pick-2.ensures k 0;
        flag = λ k. c.pick.ensures k 0;
      })
      (omega arith) (length (list at) - 0) (sub-zero (length (list at))) (fitted at) (fits at)
      (λ imported. sym c.in-Some.is ∙ c.find_hits.ensures.found imported) c.find_hits.ensures.hits

  cut : found.count ≤ length (page at)
  cut = omega (arith, back.few, c.requires.list_value.1, page_long at)

  front : length (take found.count (page at)) ≡ found.count
  front = length-take-le found.count (page at) cut

-- ---- the steps

pub unreachable-requires : goal.unreachable-requires
unreachable-requires c =
    let e = (goal.at.unreachable-requires c).After-find_hits in
    never_unfit 0 _ (fits e) (sym c.in_default.is ∙ c.find_hits.ensures.found true)

pub pick-requires : goal.pick-requires
pick-requires c = let s = (goal.at.pick-requires c).Start in picks s _ (fit s).for_flags

pub pick-requires-2 : goal.pick-requires-2
pick-requires-2 c = let s = (goal.at.pick-requires-2 c).Start in picks s _ (fit s).for_cols

pub pick-requires-3 : goal.pick-requires-3
pick-requires-3 c = let s = (goal.at.pick-requires-3 c).Start in picks s _ (fit s).for_values

pub pick_if-requires : goal.pick_if-requires
pick_if-requires c = let s = (goal.at.pick_if-requires c).Start in picks s _ (fit s).for_firsts

pub pick_if-requires-2 : goal.pick_if-requires-2
pick_if-requires-2 c = let s = (goal.at.pick_if-requires-2 c).Start in picks s _ (fit s).for_seconds

pub pick_if-requires-3 : goal.pick_if-requires-3
pick_if-requires-3 c = let s = (goal.at.pick_if-requires-3 c).Start in picks s _ (fit s).for_founds

pub slice_bounds-places-end : goal.slice_bounds-places-end
slice_bounds-places-end c =
    let e = (goal.at.slice_bounds-places-end c).In-Some in
    cut e

pub slice_bounds-put_back-end : goal.slice_bounds-put_back-end
slice_bounds-put_back-end c =
    let e = (goal.at.slice_bounds-put_back-end c).In-Some in
    sym (front e)

pub put_back-requires : goal.put_back-requires
put_back-requires c =
    let e = (goal.at.put_back-requires c).In-Some in (
      λ k h.
          let l : k < (found e).count = omega (arith, h, front e) in
          omega (arith, get_or-take (found e).count (page (at e)) k 0 l, (back e).below k l),
      omega (arith, front e, (back e).few, few (start (at e))),
    )

pub offset_bounds-list-at : goal.offset_bounds-list-at
offset_bounds-list-at c =
    let e = (goal.at.offset_bounds-list-at c).In-Some in
    omega (arith, (back e).at_within c.in-Some-unresolved.at c.in-Some-unresolved.is, c.requires.list_value.1)

pub bounds-list-at : goal.bounds-list-at
bounds-list-at c =
    let e = (goal.at.bounds-list-at c).In-Some in
    (back e).at_within c.in-Some-unresolved.at c.in-Some-unresolved.is

pub overflow_cast-result : goal.overflow_cast-result
overflow_cast-result c =
    let e = (goal.at.overflow_cast-result c).In-Some in
    omega (arith, c.type_inv.list c.in-Some-unresolved.at)

pub returns-in-Some-unresolved : goal.returns-in-Some-unresolved
returns-in-Some-unresolved c =
    let e = (goal.at.returns-in-Some-unresolved c).In-Some in
    let room = length c.args.hits.now in record {
      found = (back e).unresolved c.in-Some-unresolved.at c.in-Some-unresolved.is;
      hits = λ imported. c.put_back.ensures ∙ ap (page_of true room) ((back e).hits imported);
    }

pub returns-in-None : goal.returns-in-None
returns-in-None c =
    let e = (goal.at.returns-in-None c).In-Some in
    let room = length c.args.hits.now in record {
      found = (back e).resolved c.in-None.is;
      hits = λ imported. c.put_back.ensures ∙ ap (page_of true room) ((back e).hits imported);
    }
