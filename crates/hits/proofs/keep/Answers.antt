use native.Mathlib.Omega.{arith}
use mathlib.Core.Path.{sym, ap, ◌∙◌}
use lib.ListN.{replicate}
use Rattle.hits.proofs.Keeping.{keeping_begun, keeping_few, keeping_long, keeping_turn, keeping_ended}
use Rattle.hits.proofs.keep.Goals as goal

pub loop-i-init : goal.loop-i-init
loop-i-init c =
    let cleared = c.fill.ensures in
    keeping_begun (cleared.after (λ y h. h) ∙ ap (λ n. replicate n 0) (sym cleared.len)) (omega (arith, cleared.len))

pub offset_bounds-hits-count : goal.offset_bounds-hits-count
offset_bounds-hits-count c = omega (arith, keeping_few c.loop-i.invariant)

pub bounds-hits-count : goal.bounds-hits-count
bounds-hits-count c =
    let v = c.loop-i.invariant in
    omega (arith, keeping_few v, keeping_long v)

pub overflow_cast-count : goal.overflow_cast-count
overflow_cast-count c = omega (arith, c.requires.0 c.loop-i.i (omega arith))

pub overflow_add-count : goal.overflow_add-count
overflow_add-count c = omega (arith, keeping_few c.loop-i.invariant, c.requires.0 c.loop-i.i (omega arith))

pub loop-i-preserved : goal.loop-i-preserved
loop-i-preserved c =
    let l = c.loop-i in
    keeping_turn l.invariant (omega (arith, c.fill.ensures.len)) (omega arith) (c.requires.0 l.i (omega arith))

pub offset_bounds-hits-count-2 : goal.offset_bounds-hits-count-2
offset_bounds-hits-count-2 c = omega (arith, keeping_few c.loop-i.invariant)

pub bounds-hits-count-2 : goal.bounds-hits-count-2
bounds-hits-count-2 c =
    let v = c.loop-i.invariant in
    omega (arith, keeping_few v, keeping_long v)

pub returns : goal.returns
returns c =
    let told = rw c.fill.ensures.len at (keeping_ended c.loop-i.invariant (omega arith) (omega (arith, c.fill.ensures.len))) in
    record { count = told.0; hits = told.1 }
