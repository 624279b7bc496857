-- `ratio::channel` meets its contract: up to 1,000,000 by `channel_within`, above in i64, whose arithmetic is the definition's. Assumes nothing.
use mathlib.Core.Path.{ap, ◌∙◌}
use Prim.Native.Nat.{ℕ}
use native.Mathlib.Omega.{arith}
use lib.Dec.{lit<}
use Rattle.model.specs.Ratio.{held_to_byte, channel}
use Rattle.ratio.proofs.I64.{Term, num, lit, op, plus, minus, times, over, fits, read_is}
use Rattle.ratio.proofs.channel.Goals as goal
use Rattle.ratio.proofs.channel.Goals.{Else-ppm-le1000000}

-- the parts of the calculation; the literals k, h and q are the code's
module _ (c : Else-ppm-le1000000) where
  abbrev start : Term
  start = num c.args.start 255 (omega arith)

  abbrev end : Term
  end = num c.args.end 255 (omega arith)

  abbrev ppm : Term
  ppm = num c.args.ppm 4_294_967_295 (omega arith)

  abbrev delta : Term
  delta = op minus end start

  abbrev scaled : ℕ → Term
  scaled k = op plus (op times start (lit k)) (op times delta ppm)

  abbrev raised : ℕ → ℕ → Term
  raised k h = op plus (scaled k) (lit h)

  abbrev cut : ℕ → ℕ → ℕ → Term
  cut k h q = op over (raised k h) (lit q)

pub overflow_sub-delta : goal.overflow_sub-delta
overflow_sub-delta c = fits minus (end c) (start c) tt

pub overflow_mul-scaled : goal.overflow_mul-scaled
overflow_mul-scaled c = fits times (start c) (lit _) tt

pub overflow_mul-scaled-2 : goal.overflow_mul-scaled-2
overflow_mul-scaled-2 c = fits times (delta c) (ppm c) tt

pub overflow_add-scaled : goal.overflow_add-scaled
overflow_add-scaled c = fits plus (op times (start c) (lit _)) (op times (delta c) (ppm c)) tt

pub overflow_add-scaled-2 : goal.overflow_add-scaled-2
overflow_add-scaled-2 c = fits plus (scaled c _) (lit _) tt

pub nonzero_div-scaled : goal.nonzero_div-scaled
nonzero_div-scaled c = (lit< tt, fits over (raised c _ _) (lit _) tt)

pub returns : goal.returns
unfolding channel
returns c = c.held_to_byte.ensures ∙ ap held_to_byte (read_is (cut (goal.at.returns c).Else-ppm-le1000000 1_000_000 500_000 1_000_000) tt)
