-- `hits::find_hits` meets its contract: where a table does not fit, the memory is cleared; else the bytes of the regions are said of the
-- columns cut to the regions, which changes no verdict, and the hits are found by the bytes. Assumes nothing.
use Prim.Native.Nat.{◌-◌, ◌≤◌}
use native.Mathlib.Nat.{le_of_eq}
use native.Mathlib.Omega.{arith}
use mathlib.Core.Path.{sym, ◌∙◌}
use lib.ListN.{length}
use lib.Seq.{length-take-le}
use Rattle.memory.proofs.Laws.{page_refused}
use Rattle.hits.specs.Hits.{known}
use Rattle.hits.proofs.Finding.{found_unfit, found_fit, Fitting, fitting, part_long, tells_cut}
use Rattle.hits.proofs.find_hits.Goals as goal
use Rattle.hits.proofs.find_hits.Goals.{After-say, Else-not-fits}

-- the tables fit, past the test
fit : (c : Else-not-fits)
    → let a = c.args in
    Fitting a.from a.to (known a.values.now a.firsts.now a.seconds.now a.founds.now) a.cols.now a.flags.now
    (length a.hits.now)
fit c = fitting _ _ _ _ _ _ (sym c.fits.ensures ∙ c.if-not-fits.false)

pub returns-then-not-fits : goal.returns-then-not-fits
returns-then-not-fits c =
    let a = c.args in
    let unfit = sym c.fits.ensures ∙ c.if-not-fits.true in record {
      found = λ imported. rw unfit (found_unfit _ _);
      hits = λ imported. rw unfit (c.fill.ensures.after (λ y h. h) ∙ sym (page_refused 0 (length a.hits.now) _));
    }

pub offset_bounds-values-from : goal.offset_bounds-values-from
offset_bounds-values-from c = let f = fit c in omega (arith, f.ordered, f.few)

pub slice_bounds-say-count : goal.slice_bounds-say-count
slice_bounds-say-count c = (fit c).ordered

pub slice_bounds-say-start : goal.slice_bounds-say-start
slice_bounds-say-start c = (fit c).ordered

pub slice_bounds-say-end : goal.slice_bounds-say-end
slice_bounds-say-end c = (fit c).for_values

pub offset_bounds-firsts-from : goal.offset_bounds-firsts-from
offset_bounds-firsts-from c = let f = fit (goal.at.offset_bounds-firsts-from c).Else-not-fits in omega (arith, f.ordered, f.few)

pub slice_bounds-say-count-2 : goal.slice_bounds-say-count-2
slice_bounds-say-count-2 c = (fit (goal.at.slice_bounds-say-count-2 c).Else-not-fits).ordered

pub slice_bounds-say-start-2 : goal.slice_bounds-say-start-2
slice_bounds-say-start-2 c = (fit (goal.at.slice_bounds-say-start-2 c).Else-not-fits).ordered

pub slice_bounds-say-end-2 : goal.slice_bounds-say-end-2
slice_bounds-say-end-2 c = (fit (goal.at.slice_bounds-say-end-2 c).Else-not-fits).for_firsts

pub offset_bounds-seconds-from : goal.offset_bounds-seconds-from
offset_bounds-seconds-from c = let f = fit (goal.at.offset_bounds-seconds-from c).Else-not-fits in omega (arith, f.ordered, f.few)

pub slice_bounds-say-count-3 : goal.slice_bounds-say-count-3
slice_bounds-say-count-3 c = (fit (goal.at.slice_bounds-say-count-3 c).Else-not-fits).ordered

pub slice_bounds-say-start-3 : goal.slice_bounds-say-start-3
slice_bounds-say-start-3 c = (fit (goal.at.slice_bounds-say-start-3 c).Else-not-fits).ordered

pub slice_bounds-say-end-3 : goal.slice_bounds-say-end-3
slice_bounds-say-end-3 c = (fit (goal.at.slice_bounds-say-end-3 c).Else-not-fits).for_seconds

pub offset_bounds-founds-from : goal.offset_bounds-founds-from
offset_bounds-founds-from c = let f = fit (goal.at.offset_bounds-founds-from c).Else-not-fits in omega (arith, f.ordered, f.few)

pub slice_bounds-say-count-4 : goal.slice_bounds-say-count-4
slice_bounds-say-count-4 c = (fit (goal.at.slice_bounds-say-count-4 c).Else-not-fits).ordered

pub slice_bounds-say-start-4 : goal.slice_bounds-say-start-4
slice_bounds-say-start-4 c = (fit (goal.at.slice_bounds-say-start-4 c).Else-not-fits).ordered

pub slice_bounds-say-end-4 : goal.slice_bounds-say-end-4
slice_bounds-say-end-4 c = (fit (goal.at.slice_bounds-say-end-4 c).Else-not-fits).for_founds

pub say-requires : goal.say-requires
say-requires c =
    let f = fit (goal.at.say-requires c).Else-not-fits in
    let a = c.args in
    let l = part_long a.from a.to a.values.now f.for_values in
    let few : a.to - a.from ≤ 1024 = omega (arith, f.few) in (
      part_long a.from a.to _ f.for_firsts ∙ sym l,
      part_long a.from a.to _ f.for_seconds ∙ sym l,
      part_long a.from a.to _ f.for_founds ∙ sym l,
      rw l few,
    )

pub slice_bounds-found_by-count : goal.slice_bounds-found_by-count
slice_bounds-found_by-count c = (fit (goal.at.slice_bounds-found_by-count c).Else-not-fits).ordered

pub slice_bounds-found_by-start : goal.slice_bounds-found_by-start
slice_bounds-found_by-start c = (fit (goal.at.slice_bounds-found_by-start c).Else-not-fits).ordered

pub slice_bounds-found_by-end : goal.slice_bounds-found_by-end
slice_bounds-found_by-end c = (fit (goal.at.slice_bounds-found_by-end c).Else-not-fits).for_flags

pub offset_bounds-cols-from : goal.offset_bounds-cols-from
offset_bounds-cols-from c = let f = fit (goal.at.offset_bounds-cols-from c).Else-not-fits in omega (arith, f.ordered, f.few)

pub slice_bounds-found_by-count-2 : goal.slice_bounds-found_by-count-2
slice_bounds-found_by-count-2 c = (fit (goal.at.slice_bounds-found_by-count-2 c).Else-not-fits).ordered

pub slice_bounds-found_by-start-2 : goal.slice_bounds-found_by-start-2
slice_bounds-found_by-start-2 c = (fit (goal.at.slice_bounds-found_by-start-2 c).Else-not-fits).ordered

pub slice_bounds-found_by-end-2 : goal.slice_bounds-found_by-end-2
slice_bounds-found_by-end-2 c = (fit (goal.at.slice_bounds-found_by-end-2 c).Else-not-fits).for_cols

pub slice_bounds-said-count : goal.slice_bounds-said-count
slice_bounds-said-count c = (fit (goal.at.slice_bounds-said-count c).Else-not-fits).ordered

-- there is a byte for each region
long : (c : After-say) → c.args.to ≤ 1024 → let a = c.args in a.to - a.from ≤ length c.say.new.said
long c few = omega (arith, few, c.say.auto.said)

pub slice_bounds-said-end : goal.slice_bounds-said-end
slice_bounds-said-end c = long (goal.at.slice_bounds-said-end c).After-say (fit (goal.at.slice_bounds-said-end c).Else-not-fits).few

pub slice_bounds-found_by-length-3 : goal.slice_bounds-found_by-length-3
slice_bounds-found_by-length-3 c = sym (length-take-le _ _ (long (goal.at.slice_bounds-found_by-length-3 c).After-say (fit (goal.at.slice_bounds-found_by-length-3 c).Else-not-fits).few))

pub found_by-requires : goal.found_by-requires
found_by-requires c =
    let f = fit (goal.at.found_by-requires c).Else-not-fits in
    let a = c.args in
    let bytes = length-take-le (a.to - a.from) c.say.new.said (long (goal.at.found_by-requires c).After-say (fit (goal.at.found_by-requires c).Else-not-fits).few) in (
      rw bytes (omega (arith, f.ordered, f.few)),
      rw bytes f.within,
      le_of_eq (bytes ∙ sym (part_long a.from a.to a.flags.now f.for_flags)),
      le_of_eq (bytes ∙ sym (part_long a.from a.to a.cols.now f.for_cols)),
    )

pub returns : goal.returns
returns c =
    let found = c.found_by in
    let a = c.args in
    let fits = sym c.fits.ensures ∙ c.if-not-fits.false in
    let k = known a.values.now a.firsts.now a.seconds.now a.founds.now in
    let tells = tells_cut a.from a.to k a.test a.range a.cols.now a.flags.now _ (fit (goal.at.returns c).Else-not-fits).for_values (long (goal.at.returns c).After-say (fit (goal.at.returns c).Else-not-fits).few) in record {
      found = λ imported. rw fits (found_fit _ _ (found.ensures.found _ (tells imported (c.say.ensures imported))));
      hits = λ imported. rw fits (found.ensures.hits _ (tells imported (c.say.ensures imported)));
    }
