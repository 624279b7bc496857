-- `call::resolve_conditional_paints` meets its contract: the columns are cleared; a check that is met is the answer; else cells and regions
-- are few and rise, and the rules are run from the cleared columns, and settled. Assumes nothing.
use native.Mathlib.Omega.{arith}
use mathlib.Core.Path.{◌≡◌, refl, ◌∙◌}
use mathlib.Core.Option.{none}
use lib.Ieee.{of_bits}
use Rattle.model.specs.Job.{Job, Lengths}
use Rattle.laws.specs.Demands.{lengths_of}
use Rattle.model.specs.Lent.{job_lent}
use Rattle.checks.specs.Checked.{refusal_of}
use Rattle.turns.specs.Lent.{lent}
use Rattle.turns.specs.Emit.{MarkColumns, mark_columns, BarColumns, bar_columns}
use Rattle.turns.specs.Turns.{left, left_by}
use Rattle.turns.proofs.Settling.{ended, Long}
use Rattle.turns.proofs.Checked.{checked_fine}
use Rattle.turns.proofs.Answering.{lent_zeros, lent_same, marks_same, bars_same, space_as, answers_refused, fine, ended_as, answers_settled}
use Rattle.call.proofs.resolve_conditional_paints.Goals as goal
use Rattle.call.proofs.resolve_conditional_paints.Goals.{After-settle_columns}

pub returns-in-Err : goal.returns-in-Err
unfolding of_bits
returns-in-Err c =
    let a = c.args in
    let j = job_lent a.job in
    let l = lengths_of (lent a.regions.now a.ruleids.now a.markkinds.now a.colours.now a.ppms.now
    a.shapes.now a.barrules.now a.barppms.now a.scratch.now) in
    let z = c.clear_columns.ensures in
    let all = lent_zeros l z.regions_after z.ruleids_after z.markkinds_after z.colours_after z.ppms_after z.shapes_after
    z.barrules_after z.barppms_after (c.fill.ensures.after (λ y h. h)) in
    let done = answers_refused j a.limit l _ _ _ _ c.clear_columns.auto.barrules c.clear_columns.auto.barppms refl c.check-checked.ensures _ _
    c.in-Err.is all in record {
      answer = done.answer;
      columns = done.columns;
    }

pub run-ran-requires : goal.run-ran-requires
run-ran-requires c =
    let a = c.args in
    let j = job_lent a.job in
    let l = lengths_of (lent a.regions.now a.ruleids.now a.markkinds.now a.colours.now a.ppms.now
    a.shapes.now a.barrules.now a.barppms.now a.scratch.now) in
    let none_met = fine j a.limit l c.check-checked.result _ _ _ c.clear_columns.auto.barrules c.clear_columns.auto.barppms refl
    c.check-checked.ensures c.in_default.not-Err in
    let f = checked_fine j l none_met in record {
      cols_value = (f.cells_rise, f.cells, omega (arith, f.cell_cols), f.scratch);
      region_cols_value = (f.regions_rise, f.regions, omega (arith, f.region_cols));
    }

-- ---- behind the rules

module _ (c : After-settle_columns) where
  abbrev job : Job
  job = job_lent c.args.job

  abbrev lengths : Lengths
  lengths =
      let a = c.args in
      lengths_of (lent a.regions.now a.ruleids.now a.markkinds.now a.colours.now a.ppms.now a.shapes.now
      a.barrules.now a.barppms.now a.scratch.now)

  none_met : refusal_of job lengths ≡ none
  none_met =
      fine job c.args.limit lengths c.check-checked.result _ _ _ c.clear_columns.auto.barrules c.clear_columns.auto.barppms refl
      c.check-checked.ensures c.in_default.not-Err

  -- what the rules leave
  abbrev marks : MarkColumns
  marks =
      let z = c.run-ran.new in
      mark_columns z.regions z.ruleids z.markkinds z.colours z.ppms z.shapes

  abbrev bars : BarColumns
  bars = bar_columns c.run-ran.new.barrules c.run-ran.new.barppms

  from : left c.run-ran.result marks bars ≡ left_by (ended job c.args.limit lengths (checked_fine job lengths none_met))
  from =
      let z = c.clear_columns.ensures in
      ended_as job c.args.limit lengths (checked_fine job lengths none_met) _ _ _
      (marks_same z.regions_after z.ruleids_after z.markkinds_after z.colours_after z.ppms_after z.shapes_after)
      (bars_same z.barrules_after z.barppms_after) c.run-ran.ensures.run

  long : Long lengths (left c.run-ran.result marks bars)
  long =
      let g = c.run-ran.auto in
      let k = c.clear_columns.auto in
      record {
        regions = g.regions ∙ k.regions;
        rules = g.ruleids ∙ k.ruleids;
        kinds = g.markkinds ∙ k.markkinds;
        colours = g.colours ∙ k.colours;
        ppms = g.ppms ∙ k.ppms;
        shapes = g.shapes ∙ k.shapes;
        bar_rules = g.barrules ∙ k.barrules;
        bar_ppms = g.barppms ∙ k.barppms;
      }

pub returns : goal.returns
returns c =
    let e = (goal.at.returns c).After-settle_columns in
    let n = long e in
    let z = c.settle_columns.ensures in
    let done = answers_settled (job e) c.args.limit (lengths e) (none_met e) (left c.run-ran.result (marks e) (bars e)) _ _ _ _
    (from e) (space_as (lengths e) n.regions n.rules n.kinds n.colours n.ppms n.shapes refl) n z.answer refl
    (lent_same z.regions_after z.ruleids_after z.markkinds_after z.colours_after z.ppms_after z.shapes_after
    z.barrules_after z.barppms_after c.run-ran.ensures.scratch) in record {
      answer = done.answer;
      columns = done.columns;
    }
