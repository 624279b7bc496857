-- `reader::read_job` meets its contract: what is lent stays where a job was read, and becomes 0 where none was. Assumes nothing.
use mathlib.Core.Path.{sym, ◌∙◌}
use Rattle.celllines.specs.Columns.{columns}
use Rattle.reader.proofs.Clearing.{job_taken, job_refused}
use Rattle.reader.proofs.read_job.Goals as goal

pub returns-then-is_err : goal.returns-then-is_err
returns-then-is_err c =
    let r = c.read_text-job in
    let l = r.new in
    let k = r.auto in
    let a = c.args in
    let told = job_refused _ (columns a.rows.now a.cols.now a.kinds.now a.wraps.now a.nums.now a.ats.now a.lens.now)
    a.regionrows.now a.regioncols.now a.pool.now
    (columns l.rows l.cols l.kinds l.wraps l.nums l.ats l.lens) l.regionrows l.regioncols l.pool
    r.ensures.value (sym c.is_err.ensures.value ∙ c.if-is_err.true)
    (k.rows, (k.cols, (k.kinds, (k.wraps, (k.nums, (k.ats, (k.lens, (k.regionrows, (k.regioncols, (k.pool, tt))))))))))
    c.clear_cells.ensures.lens_after (c.fill.ensures.after (λ y h. h)) (c.fill-then-is_err.ensures.after (λ y h. h))
    c.clear_cells.ensures.pool_after in
    record { value = told.0; pool_after = told.1 }

pub returns-else-is_err : goal.returns-else-is_err
returns-else-is_err c =
    let r = c.read_text-job.ensures in
    let told = job_taken _ _ _ _ _ _ (sym c.is_err.ensures.value ∙ c.if-is_err.false) (r.value, r.job_left) in
    record { value = told.0; pool_after = told.1 }
