use native.Mathlib.Omega.{arith}
use mathlib.Core.Path.{refl, ◌∙◌}
use lib.ListN.{get_or}
use Rattle.std.proofs.lemmas.List.{get_or_default}
use Rattle.call.proofs.Filling.{filled_begun, filled_more}
use Rattle.call.proofs.picked.pick.Goals as goal

pub loop-k-init : goal.loop-k-init
loop-k-init g c d = filled_begun

pub loop-k-preserved : goal.loop-k-preserved
loop-k-preserved g c d =
    let v = c.loop-k.invariant d in
    let at = get_or c.args.list.now c.loop-k.k 0 in
    filled_more v (omega (arith, v.long, c.requires.1))
    (c.index-column-list.is
    ∙ get_or_default c.args.column.now at c.index-column-list.result d (c.requires.0 c.loop-k.k (omega arith)))

pub returns : goal.returns
returns g c k d h = (c.loop-k.invariant d).filled k (omega arith) refl
