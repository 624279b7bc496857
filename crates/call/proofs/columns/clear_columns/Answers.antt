-- `call::columns::clear_columns` meets its contract: columns that are not kept are 0. Nothing is asked where it calls. Assumes nothing.
use Rattle.call.proofs.columns.clear_columns.Goals as goal

pub returns : goal.returns
returns c = record {
  regions_after = c.keep_columns.ensures.regions_after;
  ruleids_after = c.keep_columns.ensures.ruleids_after;
  markkinds_after = c.keep_columns.ensures.markkinds_after;
  colours_after = c.keep_columns.ensures.colours_after;
  ppms_after = c.keep_columns.ensures.ppms_after;
  shapes_after = c.keep_columns.ensures.shapes_after;
  barrules_after = c.keep_columns.ensures.barrules_after;
  barppms_after = c.keep_columns.ensures.barppms_after;
}
