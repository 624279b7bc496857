use Prim.Native.Nat.{◌+◌}
use native.Mathlib.Omega.{arith}
use mathlib.Core.Path.{◌≡◌, sym, ap, ◌∙◌}
use mir.Val.{bool_byte}
use lib.Dec.{eqb}
use lib.ListN.{length, get_or}
use Rattle.hits.specs.Hits.{live_from}
use Rattle.hits.proofs.Unstopped.{live_none, live_more, live_few}
use Rattle.hits.proofs.live.Goals as goal

pub loop-flag-init : goal.loop-flag-init
loop-flag-init c = sym (live_none _ 0)

pub overflow_add-count : goal.overflow_add-count
overflow_add-count c =
    let flags = c.args.flags.now in
    let l = c.loop-flag in
    omega (arith, l.invariant, live_more flags l.flag-index, live_few flags 0 (l.flag-index + 1))

pub loop-flag-preserved : goal.loop-flag-preserved
loop-flag-preserved c =
    let flags = c.args.flags.now in
    let l = c.loop-flag in
    ap (λ n. n + bool_byte (eqb (get_or flags l.flag-index 0) 0)) l.invariant ∙ sym (live_more flags l.flag-index)

pub returns : goal.returns
returns c =
    let flags = c.args.flags.now in
    let l = c.loop-flag in
    let end : l.flag-index ≡ length flags = omega arith in
    l.invariant ∙ ap (λ n. live_from flags 0 n) end
