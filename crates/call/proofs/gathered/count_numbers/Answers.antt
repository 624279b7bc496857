use native.Mathlib.Nat.{zero-add}
use native.Mathlib.Omega.{arith}
use lib.Ieee.{nan, eq}
use lib.ListN.{get_or, drop_of_length-le}
use Rattle.ranges.proofs.Laws.{byte_few}
use Rattle.call.proofs.Gathering.{among_left}
use Rattle.call.proofs.gathered.count_numbers.Goals as goal

pub loop-x-init : goal.loop-x-init
loop-x-init c = (omega arith, zero-add _)

pub overflow_add-count : goal.overflow_add-count
overflow_add-count c =
    let l = c.loop-x in
    let x = get_or c.args.floats.now l.x-index nan in
    omega (arith, byte_few (eq x x))

pub loop-x-preserved : goal.loop-x-preserved
loop-x-preserved c =
    let l = c.loop-x in
    let floats = c.args.floats.now in
    let x = get_or floats l.x-index nan in
    (omega (arith, byte_few (eq x x)), omega (arith, l.invariant.1, among_left floats l.x-index (omega arith)))

pub returns : goal.returns
returns c =
    let l = c.loop-x in
    omega (arith, rw (drop_of_length-le c.args.floats.now {i = l.x-index} (omega arith)) at l.invariant.1)
