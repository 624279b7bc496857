use Prim.Native.Nat.{◌+◌, ◌<◌}
use mathlib.Core.Path.{ap, ◌∙◌}
use native.Mathlib.Numerals.{add-one}
use native.Mathlib.Omega.{arith}
use lib.ListN.{length}
use lib.Seq.{get_or-set_same}
use Rattle.keys.specs.Places.{place_of}
use Rattle.keys.proofs.Comparing.{tag_some, held_tag, held_word}
use Rattle.keys.proofs.Tabling.{tabled_begun, tabled_passed, tabled_same, tabled_new}
use Rattle.keys.proofs.table.tabled_codes.Goals as goal
use Rattle.keys.proofs.table.tabled_codes.Goals.{then-places-p-eq0, else-places-p-eq0}

pub loop-i-init : goal.loop-i-init
loop-i-init c ks v = tabled_begun

pub loop-i-preserved-then-keys-i-eq0 : goal.loop-i-preserved-then-keys-i-eq0
loop-i-preserved-then-keys-i-eq0 c ks v = rw add-one (tabled_passed (c.loop-i.invariant ks v))

pub loop-i-preserved : goal.loop-i-preserved
loop-i-preserved c ks v =
    let last = c.loop-i in
    let p = c.in-Some.p in
    let keyed = tag_some _ (λ t. c.if-keys-i-eq0.false (held_tag _ v last.i ∙ t)) in
    let place = c.place-start.ensures.value ∙ ap place_of (held_word _ v last.i) in
    let there = rw place at (c.in-Some.ensures.found ks v keyed) in
    let few : p < 4128 = omega (arith, c.in-Some.ensures.range.1, c.min.ensures, c.place-start.ensures.upper_bound) in
    let room : p < length last.places = omega (arith, few, (last.invariant ks v).sized) in
    elim c.if-places-p-eq0.branch [
      | then-places-p-eq0 w ↦ rw (w.places-is, get_or-set_same last.places p (last.i + 1) 0 room, add-one)
          (tabled_new (last.invariant ks v) (omega arith) keyed there w.if-places-p-eq0.true few)
      | else-places-p-eq0 w ↦ rw (w.places-is, add-one) (tabled_same (last.invariant ks v) (omega arith) keyed there w.if-places-p-eq0.false)
    ]
