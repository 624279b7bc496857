-- `rulelines::kinds::read_same` meets its contract. Assumes nothing.
use Prim.Native.Nat.{◌+◌}
use mathlib.Core.Path.{◌≡◌, ◌∙◌}
use native.Mathlib.Omega.{arith}
use Rattle.fields.proofs.Laws.{error_left}
use Rattle.grammar.specs.Parts.{bytes}
use Rattle.jobtext.specs.Rules.{same}
use Rattle.jobtext.specs.Laid.{kind_at, kind_bytes}
use Rattle.rulelines.specs.RuleWords.{flagged}
use Rattle.rulelines.proofs.Told.{placed_got, placed_bad}
use Rattle.rulelines.proofs.kinds.read_same.Goals as goal

pub returns-in_err-read : goal.returns-in_err-read
unfolding same flagged bytes
returns-in_err-read c = error_left _ c.from_residual.ensures.1 ∙ rw (placed_bad _ c.in_err-read.ensures)

pub returns : goal.returns
unfolding same flagged bytes kind_at kind_bytes
returns c = let z : c.args.used + 0 ≡ c.args.used = omega arith in rw (placed_got _ c.in_ok-read.ensures, z)
