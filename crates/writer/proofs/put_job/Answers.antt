-- `writer::put_job` meets its contract: the head, the cells, the regions, then the rules. Assumes nothing.
use native.Mathlib.Omega.{arith}
use Rattle.model.specs.Lent.{job_lent}
use Rattle.put.proofs.Laws.{puts_then, puts_as}
use Rattle.writer.proofs.Texts.{text_joined}
use Rattle.writer.proofs.put_job.Goals as goal

pub returns : goal.returns
returns c =
    puts_as (
    puts_then (omega arith)
    (puts_then (omega arith) (puts_then (omega arith) c.put_head.ensures c.put_cells.ensures) c.put_regions.ensures)
    c.put_rules.ensures)
    (rw c.declared.ensures (text_joined c.args.limit (job_lent c.args.job)))
