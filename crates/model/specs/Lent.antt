-- What lent columns say: the cells and the job of the definition. Assumes nothing.
use Rattle.model.specs.declared.LentCells.{LentCells}
use Rattle.model.specs.declared.LentJob.{LentJob}
use Rattle.model.specs.Sheet.{CellColumns}
use Rattle.model.specs.Job.{Job}

abbrev pub cells_lent : LentCells → CellColumns
cells_lent c =
    record {
      rows = c.rows.now;
      cols = c.cols.now;
      kinds = c.kinds.now;
      wraps = c.wraps.now;
      nums = c.nums.now;
      ats = c.ats.now;
      lens = c.lens.now;
    }

abbrev pub job_lent : LentJob → Job
job_lent j =
    record {
      cells = cells_lent j.cells;
      region_rows = j.regions.rows.now;
      region_cols = j.regions.cols.now;
      pool = j.pool.now;
      name = j.name;
      rules = j.rules.now;
      start = j.start;
    }
