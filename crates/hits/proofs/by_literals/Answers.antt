-- `by_literals` meets its contract: a cell-is test; the other tests close without an answer. Assumes nothing.
use Rattle.hits.proofs.by_literals.Goals as goal

pub returns-in-CellIs : goal.returns-in-CellIs
returns-in-CellIs c = rw c.in-CellIs.is (c.literals.ensures _)
