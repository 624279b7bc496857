-- `call::picked::find_within` meets its contract: among the regions in range alone, where these are few, else among all of the band.
-- Assumes nothing.
use native.Mathlib.Omega.{arith}
use Prim.Native.Nat.{◌-◌}
use mathlib.Core.Path.{◌≡◌, sym, ap, ◌∙◌}
use mathlib.Core.Bool.{Bool, true}
use mathlib.Core.List.{List}
use lib.ListN.{length, take}
use lib.Seq.{length-take-le}
use Rattle.memory.specs.Memory.{page_of}
use Rattle.model.specs.declared.Outcome.{Outcome}
use Rattle.hits.specs.Hits.{known, outcomes_by, hits_of}
use Rattle.hits.proofs.Finding.{Fitting, fitting, fit_found, never_unfit}
use Rattle.call.proofs.picked.find_within.Goals as goal
use Rattle.call.proofs.picked.find_within.Goals.{Start, Then-count-le128}

fit : (c : Start) → let a = c.args in
    Fitting a.band.from a.band.to (known a.values.now a.firsts.now a.seconds.now a.founds.now)
    a.cols.now a.flags.now (length a.hits.now)
fit c = fitting _ _ _ _ _ _ c.requires.hits_value

abbrev outcomes : Start → Bool → List Outcome
outcomes c imported =
    let a = c.args in
    outcomes_by (known a.values.now a.firsts.now a.seconds.now a.founds.now) a.range a.test imported
    a.cols.now a.flags.now a.band.from (a.band.to - a.band.from)

-- the front of the list
front : (c : Then-count-le128) → let listed = c.list_in-count in
    length (take listed.result listed.new.list) ≡ listed.result
front c =
    let listed = c.list_in-count in
    length-take-le _ _ (omega (arith, c.if-count-le128.true, listed.auto.list))

pub is_wide-requires : goal.is_wide-requires
is_wide-requires c = ((fit (goal.at.is_wide-requires c).Start).ordered, (fit (goal.at.is_wide-requires c).Start).for_cols)

pub list_in-count-requires : goal.list_in-count-requires
list_in-count-requires c =
    let s = (goal.at.list_in-count-requires c).Start in
    let p = c.requires.cols_value in
    (p.0, p.1, p.2, (fit s).ordered, p.3, omega arith)

pub slice_bounds-find_listed-end : goal.slice_bounds-find_listed-end
slice_bounds-find_listed-end c = sym (front (goal.at.slice_bounds-find_listed-end c).Then-count-le128)

pub find_listed-requires : goal.find_listed-requires
find_listed-requires c =
    let few = c.if-count-le128.true in record {
      list_value = (c.list_in-count.ensures few, omega (arith, few, front (goal.at.find_listed-requires c).Then-count-le128));
      hits_value = c.requires.hits_value;
    }

pub unreachable-requires : goal.unreachable-requires
unreachable-requires c =
    never_unfit c.args.band.from (outcomes (goal.at.unreachable-requires c).Start true) c.requires.hits_value
    (sym c.in_default.is ∙ c.find_hits.ensures.found true)

pub returns : goal.returns
returns c =
    let from = c.args.band.from in
    let room = length c.args.hits.now in
    let fits = c.requires.hits_value in record {
      found = λ imported.
          fit_found from (outcomes (goal.at.returns c).Start imported) fits (sym c.in-Some.is ∙ c.find_hits.ensures.found imported);
      hits = λ imported. c.find_hits.ensures.hits imported ∙ ap (λ (b : Bool). page_of b room (hits_of from (outcomes (goal.at.returns c).Start imported))) fits;
    }
