-- `call::planned::plan_of_duplicates` meets its contract: a range beyond the grid, one that is not covered, one that is. In the last the
-- count of a region's code is that of its key. Assumes nothing.
use mathlib.Core.Path.{sym, ap, ◌∙◌}
use mathlib.Core.List.{[]}
use lib.ListN.{length}
use Rattle.model.specs.declared.Span.{Span}
use Rattle.model.specs.Rule.{plan_of}
use Rattle.cells.specs.Columns.{columns, coordinate_at}
use Rattle.turns.proofs.Bands.{within_band, in_range_band}
use Rattle.call.specs.Tables.{code_named, coded_from}
use Rattle.call.proofs.Parting.{untested}
use Rattle.call.proofs.Covering.{code_found}
use Rattle.call.proofs.planned.plan_of_duplicates.Goals as goal

pub returns-then-not-within_grid : goal.returns-then-not-within_grid
unfolding plan_of
returns-then-not-within_grid c =
    record {
      plan = λ kinds wraps nums ats lens pool regions name up banded inside coded.
          rw (sym c.within_grid.ensures ∙ c.if-not-within_grid.true);
      founds = λ kinds wraps nums ats lens pool test up banded band inside coded followed tested. absurd (untested test tested);
    }

pub returns-then-not-is_covered : goal.returns-then-not-is_covered
unfolding plan_of
returns-then-not-is_covered c =
    let keyless = c.count_keys-keyless.ensures.keyless in record {
      plan = λ kinds wraps nums ats lens pool regions name up banded inside coded. rw (
        sym c.within_grid.ensures ∙ c.if-not-within_grid.false,
        sym (c.is_covered.ensures _ _ pool regions name up banded.rise banded.few inside coded (keyless banded.band))
            ∙ c.if-not-is_covered.true,
      );
      founds = λ kinds wraps nums ats lens pool test up banded band inside coded followed tested. absurd (untested test tested);
    }

pub returns : goal.returns
unfolding plan_of
returns c =
    let a = c.args in record {
      plan = λ kinds wraps nums ats lens pool regions name up banded inside coded. rw (
        sym c.within_grid.ensures ∙ c.if-not-within_grid.false,
        sym (c.is_covered.ensures _ _ pool regions name up banded.rise banded.few inside coded (c.count_keys-keyless.ensures.keyless banded.band))
            ∙ c.if-not-is_covered.false,
      );
      founds = λ kinds wraps nums ats lens pool test up banded band inside coded followed tested i h e.
          let name : Span = record { at = 0; len = 0 } in
          let full = sym (c.is_covered.ensures _ _ pool [] name up banded.rise banded.few inside coded (c.count_keys-keyless.ensures.keyless banded.band))
          ∙ c.if-not-is_covered.false in
          let among = in_range_band band a.region_cols.now i h e in
          let column = sym (within_band band a.region_cols.now i among.0 among.1) ∙ e in
          c.count_keys-keyless.ensures.founds banded.band i among.0 among.1 column
          ∙ ap (λ entry. coded_from a.range a.rows.now a.cols.now a.codes.now (code_named a.codes.now entry) 0
          (length a.rows.now)) (followed i h)
          ∙ code_found (columns a.rows.now a.cols.now kinds wraps nums ats lens) banded.rise pool a.codes.now coded
          banded.few a.range up [] name full (coordinate_at a.region_rows.now a.region_cols.now i) e;
    }
