use Prim.Native.Nat.{ℕ, ◌≤◌, ◌<◌}
use mathlib.Core.Path.{◌≡◌, refl, sym, ap, ◌∙◌}
use mathlib.Core.List.{List}
use native.Mathlib.Omega.{arith}
use lib.Ieee.{Float}
use lib.ListN.{length, replicate, length-replicate}
use lib.Seq.{length-take-le}
use Rattle.model.specs.Ratio.{zero_f}
use Rattle.order.specs.Order.{ordered_rules}
use Rattle.hits.specs.Hits.{known, live_from}
use Rattle.keys.proofs.Naming.{zeros_at}
use Rattle.turns.specs.Turns.{left_by}
use Rattle.turns.proofs.Running.{small_next, running_begun, running_next, running_ended, record_within}
use Rattle.hits.proofs.Unstopped.{live_front, live_zeros}
use Rattle.call.proofs.Rulewise.{fits_hits_lem}
use Rattle.call.proofs.rules.run_rules.Goals as goal
use Rattle.call.proofs.rules.run_rules.Goals.{After-turn-ran, then-rule, else-rule}

pub loop-k-init : goal.loop-k-init
loop-k-init c = (
  λ kinds wraps nums ats lens tabled. running_begun _ _ _,
  rw c.none_yet-ran.ensures (record { marks = omega arith; deferred = omega arith; simplified = omega arith }),
  record {
    regions = refl;
    rules = refl;
    kinds = refl;
    colours = refl;
    ppms = refl;
    shapes = refl;
    bar_rules = refl;
    bar_ppms = refl;
    scratch = refl;
    flagged = length-replicate {A = ℕ} 1024 0;
  },
  length-replicate {A = Float} 1024 zero_f,
  length-replicate {A = Float} 1024 zero_f,
  length-replicate {A = ℕ} 1024 0,
  length-replicate {A = ℕ} 1025 0,
  sym (live_zeros (replicate 1024 0) (zeros_at 1024) _),
)

pub overflow_cast-at : goal.overflow_cast-at
overflow_cast-at c =
    let pre = c.requires.order_value in
    omega (arith, pre.2, record_within _ _ _ _ pre.0 pre.1 c.loop-k-test.true)

pub offset_bounds-rules-at : goal.offset_bounds-rules-at
offset_bounds-rules-at c =
    let pre = c.requires.order_value in
    omega (arith, pre.2, record_within _ _ _ _ pre.0 pre.1 c.loop-k-test.true)

pub bounds-rules-at : goal.bounds-rules-at
bounds-rules-at c =
    let pre = c.requires.order_value in
    omega (arith, pre.2, record_within _ _ _ _ pre.0 pre.1 c.loop-k-test.true)

pub slice_bounds-turn-end : goal.slice_bounds-turn-end
slice_bounds-turn-end c = sym c.loop-k.invariant.3

pub slice_bounds-turn-end-in-loop-k : goal.slice_bounds-turn-end-in-loop-k
slice_bounds-turn-end-in-loop-k c = sym c.loop-k.invariant.4

pub slice_bounds-turn-end-in-loop-k-2 : goal.slice_bounds-turn-end-in-loop-k-2
slice_bounds-turn-end-in-loop-k-2 c = sym c.loop-k.invariant.5

pub slice_bounds-turn-end-in-loop-k-3 : goal.slice_bounds-turn-end-in-loop-k-3
slice_bounds-turn-end-in-loop-k-3 c = sym c.loop-k.invariant.6

pub slice_bounds-turn-end-in-loop-k-4 : goal.slice_bounds-turn-end-in-loop-k-4
slice_bounds-turn-end-in-loop-k-4 c = sym c.loop-k.invariant.2.flagged

pub turn-ran-requires : goal.turn-ran-requires
turn-ran-requires c =
    let below = c.loop-k-test.true in
    let at = c.loop-k in
    let inv = at.invariant in
    let a = c.args in
    let cells = c.requires.by_index in
    let regions = c.requires.region_cols_value in record {
      marks_bound = (
        omega (arith, inv.1.marks, below, c.requires.order_value.2),
        omega (arith, inv.1.deferred, below, c.requires.order_value.2),
        omega (arith, inv.1.simplified, below, c.requires.order_value.2),
      );
      cols_value = c.requires.cols_value;
      by_index = (cells.0, cells.1, omega (arith, cells.2, inv.2.scratch), c.all_numeric-numeric.ensures);
      region_cols_value = (regions.0, inv.7);
      hits_value = fits_hits_lem 0 (length a.region_rows.now) (known a.values.now at.firsts at.seconds at.founds)
          a.region_cols.now at.flags (length at.hits)
          (record {
            ordered = omega arith;
            few = regions.1;
            within = omega (arith, regions.1, inv.6);
            for_cols = regions.2;
            for_flags = omega (arith, regions.1, inv.2.flagged);
            for_values = regions.3;
            for_firsts = omega (arith, regions.1, inv.3);
            for_seconds = omega (arith, regions.1, inv.4);
            for_founds = omega (arith, regions.1, inv.5);
          });
    }

-- ---- behind the turn

module _ (c : After-turn-ran) where
  abbrev flags : List ℕ
  flags = c.turn-ran.new.flags

  flags_long : length flags ≡ 1024
  flags_long = c.turn-ran.auto.flags ∙ c.loop-k.invariant.2.flagged

  within : length c.args.region_rows.now ≤ length flags
  within = omega (arith, flags_long, c.requires.region_cols_value.1)

pub slice_bounds-flags-end : goal.slice_bounds-flags-end
slice_bounds-flags-end c = within (goal.at.slice_bounds-flags-end c).After-turn-ran

pub slice_bounds-live-end : goal.slice_bounds-live-end
slice_bounds-live-end c = sym (length-take-le _ _ (within (goal.at.slice_bounds-live-end c).After-turn-ran))

pub loop-k-preserved : goal.loop-k-preserved
loop-k-preserved c =
    let done = (goal.at.loop-k-preserved c).After-turn-ran in
    let below = c.loop-k-test.true in
    let at = c.loop-k in
    let pre = c.requires.order_value in
    let first : at.k < length (ordered_rules c.args.rules) = omega (arith, below, pre.1) in
    let told = c.turn-ran.ensures in
    let k = c.turn-ran.auto in
    let inv = at.invariant in
    let v = inv.2 in
    let regions = length c.args.region_rows.now in (
      λ kinds wraps nums ats lens tabled.
          running_next _ _ _ _ _ at.k _ _ _ pre.0 refl first (inv.0 kinds wraps nums ats lens tabled)
          (told.turn kinds wraps nums ats lens (tabled _ _ (record_within _ _ _ _ pre.0 pre.1 below))),
      small_next inv.1 told.few.0 told.few.1 told.few.2,
      record {
        regions = k.regions ∙ v.regions;
        rules = k.ruleids ∙ v.rules;
        kinds = k.markkinds ∙ v.kinds;
        colours = k.colours ∙ v.colours;
        ppms = k.ppms ∙ v.ppms;
        shapes = k.shapes ∙ v.shapes;
        bar_rules = k.barrules ∙ v.bar_rules;
        bar_ppms = k.barppms ∙ v.bar_ppms;
        scratch = k.scratch ∙ v.scratch;
        flagged = flags_long done;
      },
      k.firsts ∙ inv.3,
      k.seconds ∙ inv.4,
      k.founds ∙ inv.5,
      k.hits ∙ inv.6,
      elim c.if-rule.branch [
        | then-rule w ↦ w.alive-is ∙ w.live-alive.ensures ∙ live_front (flags done) _ (within done)
        | else-rule w ↦ w.alive-is ∙ inv.7 ∙ ap (λ (l : List ℕ). live_from l 0 regions) (sym (told.flags w.if-rule.false))
      ],
    )

pub returns : goal.returns
returns c =
    let at = c.loop-k in
    let end : at.k ≡ length (ordered_rules c.args.rules) =
    omega (arith, c.requires.order_value.1) in record {
      run = λ kinds wraps nums ats lens tabled.
          rw c.none_yet-ran.ensures at
          (ap left_by (running_ended _ _ _ _ at.k end (at.invariant.0 kinds wraps nums ats lens tabled)));
    }
