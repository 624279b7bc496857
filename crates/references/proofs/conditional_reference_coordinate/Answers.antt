-- `references::conditional_reference_coordinate`: a column that is accepted fits u16. Assumes nothing.
use Rattle.std.proofs.Common.{sym, ◌∙◌, arith}
use Rattle.references.proofs.Coordinate.{axis_small}
use Rattle.references.proofs.conditional_reference_coordinate.Goals as goal

pub joined-requires : goal.joined-requires
joined-requires c v e = axis_small _ _ _ _ (omega arith) v (sym c.axis-col.ensures ∙ e)
