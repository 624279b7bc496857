-- `jobmemory::space::JobMemory::new` meets its contract: zeros as the empty memory has them, and blank records. Assumes nothing.
use Rattle.jobmemory.proofs.space.JobMemory.new.Goals as goal

pub returns : goal.returns
returns c = rw (c.empty.ensures, c.blank_rules.ensures)
