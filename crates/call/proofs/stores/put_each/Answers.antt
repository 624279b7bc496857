use native.Mathlib.Omega.{arith}
use mathlib.Core.Path.{sym, ap, ◌∙◌}
use lib.ListN.{length-map, get_or-map}
use Rattle.call.proofs.Putting.{put_begun, put_turn, put_ended}
use Rattle.call.proofs.stores.put_each.Goals as goal

pub loop-k-init : goal.loop-k-init
loop-k-init g c f all = put_begun

pub loop-k-preserved : goal.loop-k-preserved
loop-k-preserved g c f all =
    let item = c.index-items-k.result in
    let k = c.loop-k.k in
    let told = rw (← c.index-items-k.is) at (all k item (omega arith)) in
    put_turn (c.loop-k.invariant f all) (f item) (omega (arith, length-map c.args.items.now f))
    (told c.value.result c.value.ensures ∙ ap f c.index-items-k.is ∙ sym (get_or-map f c.args.items.now k item))

pub returns : goal.returns
returns g c f all = put_ended (c.loop-k.invariant f all) (simp length-map c.space_for-end.ensures) c.loop-k-test.false
