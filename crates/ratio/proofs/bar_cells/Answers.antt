-- `ratio::bar_cells` meets its contract: at least one cell where the ppm is not 0. Assumes nothing.
use Rattle.std.proofs.Common.{◌≡◌, ℕ, ◌*◌, ◌/◌, min, max, arith}
use Rattle.std.proofs.lemmas.Bool.Decides.{nat_tests}
use Rattle.model.specs.Ratio.{bar_cells}
use Rattle.ratio.proofs.bar_cells.Goals as goal

larger : (p : ℕ) → max (40 * p / 1_000_000) (min p 1) ≡ bar_cells p
unfolding bar_cells
larger p = grind (arith, nat_tests)

pub returns : goal.returns
returns c = rw (c.max.ensures, c.min.ensures) (larger c.args.ppm)
