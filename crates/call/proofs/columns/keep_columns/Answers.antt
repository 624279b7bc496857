-- `call::columns::keep_columns` meets its contract: each column as `keep_column` leaves it. Nothing is asked where it calls. Assumes nothing.
use Rattle.call.proofs.columns.keep_columns.Goals as goal

pub returns : goal.returns
returns c =
    record {
      regions_after = c.keep_column.ensures;
      ruleids_after = c.keep_column-2.ensures;
      markkinds_after = c.keep_column-3.ensures;
      colours_after = c.keep_column-4.ensures;
      ppms_after = c.keep_column-5.ensures;
      shapes_after = c.keep_column-6.ensures;
      barrules_after = c.keep_column-7.ensures;
      barppms_after = c.keep_column-8.ensures;
    }
