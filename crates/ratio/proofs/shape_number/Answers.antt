-- `ratio::shape_number` meets its contract: a number for each shape. Assumes nothing.
use Rattle.model.specs.Ratio.{shape_number}
use Rattle.ratio.proofs.shape_number.Goals as goal

pub returns-in-Plain : goal.returns-in-Plain
unfolding shape_number
returns-in-Plain c = rw c.in-Plain.is

pub returns-in-Flat : goal.returns-in-Flat
unfolding shape_number
returns-in-Flat c = rw c.in-Flat.is

pub returns-in-TooWide : goal.returns-in-TooWide
unfolding shape_number
returns-in-TooWide c = rw c.in-TooWide.is
