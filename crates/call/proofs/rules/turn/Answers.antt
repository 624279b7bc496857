-- `call::rules::turn` meets its contract. What is decided paints regions that are there and has no more of them than there is space for, by
-- which the calls and the sums are safe. By the tables of the sheet it is the definition's step, and with its marks, stops and bars that
-- makes up the definition's turn. Assumes nothing.
use Prim.Native.Nat.{ℕ, ◌≤◌, ◌<◌}
use native.Mathlib.Omega.{arith}
use mathlib.Core.Path.{sym, ◌∙◌}
use mathlib.Core.List.{List}
use lib.ListN.{length, get_or, take}
use lib.Seq.{length-take-le}
use Rattle.hits.specs.Hits.{known}
use Rattle.hits.proofs.Finding.{Fitting, fitting}
use Rattle.turns.specs.Emit.{mark_columns, bar_columns}
use Rattle.turns.specs.Turns.{state_of, indexed}
use Rattle.ranges.proofs.Laws.{byte_few}
use Rattle.call.proofs.Turning.{front_below, flags_kept, byte_is, turn_decided}
use Rattle.call.proofs.rules.turn.Goals as goal
use Rattle.call.proofs.rules.turn.Goals.{After-decide-said}

-- ---- what is decided

-- the table of hits
abbrev hits : After-decide-said → List ℕ
hits c = c.decide-said.new.hits

fit : (c : After-decide-said) → let a = c.args in
    Fitting 0 (length a.region_rows.now) (known a.values.now a.firsts.now a.seconds.now a.founds.now)
    a.region_cols.now a.flags.now (length a.hits.now)
fit c = fitting _ _ _ _ _ _ c.requires.hits_value

short : (c : After-decide-said) → c.decide-said.result.count ≤ length (hits c)
short c = omega (arith, c.decide-said.ensures.few, (fit c).within, c.decide-said.auto.hits)

few : (c : After-decide-said) → c.decide-said.result.count ≤ 1024
few c = omega (arith, c.decide-said.ensures.few, (fit c).few)

below : (c : After-decide-said) → let front = take c.decide-said.result.count (hits c) in
    (k : ℕ) → k < length front → get_or front k 0 < length c.args.values.now
below c = front_below (hits c) c.decide-said.result.count _ _ (short c) (fit c).for_values c.decide-said.ensures.hits

-- ---- the needs

pub decide-said-requires : goal.decide-said-requires
decide-said-requires c = record {
  cols_value = c.requires.cols_value;
  by_index = c.requires.by_index;
  region_cols_value = c.requires.region_cols_value;
  hits_value = c.requires.hits_value;
}

pub slice_bounds-painted-end : goal.slice_bounds-painted-end
slice_bounds-painted-end c = short (goal.at.slice_bounds-painted-end c).After-decide-said

pub slice_bounds-painted-end-2 : goal.slice_bounds-painted-end-2
slice_bounds-painted-end-2 c = sym (length-take-le _ _ (short (goal.at.slice_bounds-painted-end-2 c).After-decide-said))

pub overflow_cast-ran : goal.overflow_cast-ran
overflow_cast-ran c = omega (arith, c.requires.marks_bound.0)

pub put_marks-requires : goal.put_marks-requires
put_marks-requires c = below (goal.at.put_marks-requires c).After-decide-said

pub draw_bars-requires : goal.draw_bars-requires
draw_bars-requires c = below (goal.at.draw_bars-requires c).After-decide-said

pub overflow_cast-result : goal.overflow_cast-result
overflow_cast-result c = omega (arith, few (goal.at.overflow_cast-result c).After-decide-said)

pub overflow_add-result : goal.overflow_add-result
overflow_add-result c = omega (arith, few (goal.at.overflow_add-result c).After-decide-said, c.requires.marks_bound.0)

pub overflow_add-result-2 : goal.overflow_add-result-2
overflow_add-result-2 c = omega (arith, c.from.ensures, byte_few c.decide-said.result.deferred, c.requires.marks_bound.1)

pub overflow_add-result-3 : goal.overflow_add-result-3
overflow_add-result-3 c = omega (arith, c.from-2.ensures, byte_few c.decide-said.result.simplified, c.requires.marks_bound.2)

pub returns : goal.returns
returns c =
    let s = (goal.at.returns c).After-decide-said in
    let a = c.args in
    let marks = mark_columns a.regions.now a.ruleids.now a.markkinds.now a.colours.now a.ppms.now a.shapes.now in
    let st = state_of a.ran a.flags.now marks (bar_columns a.barrules.now a.barppms.now) in
    let d = c.decide-said.result in
    let said = c.decide-said.ensures in record {
      turn = λ kinds wraps nums ats lens tabled. turn_decided (indexed a.index a.rule) _ st a.values.now (hits s) c.decide-said.result
          (said.decided kinds wraps nums ats lens tabled) _ _ _ c.stop_regions.ensures c.put_marks.ensures
          c.draw_bars.ensures _ _ (c.from.ensures ∙ byte_is d.deferred) (c.from-2.ensures ∙ byte_is d.simplified);
      flags = flags_kept a.rule.stop (take c.decide-said.result.count (hits s)) a.flags.now _ c.stop_regions.ensures;
      few = (
        omega (arith, few s),
        omega (arith, c.from.ensures, byte_few d.deferred),
        omega (arith, c.from-2.ensures, byte_few d.simplified),
      );
    }
