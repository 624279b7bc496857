use Prim.Native.Nat.{◌+◌}
use mathlib.Core.Path.{◌≡◌, refl, sym, ◌∙◌}
use mathlib.Core.Bool.{◌&&◌}
use native.Mathlib.Omega.{arith}
use lib.ListN.{get_or}
use borrow.Author.Rules.{rules}
use Rattle.a1text.specs.Bytes.{is_printable}
use Rattle.a1reader.proofs.Quotes.{byte_within, quoting_byte, quoting_two, quoting_end, quoting_open}
use Rattle.a1reader.proofs.between_quotes.Goals as goal
use Rattle.a1reader.proofs.between_quotes.Goals.{Joined-printable, else-b-eq39, else-printable, then-b-eq39+else-at-ne39, then-printable}

pub loop-q-init : goal.loop-q-init
loop-q-init c = record { same = refl; most = omega arith }

pub returns-then-at-ne39 : goal.returns-then-at-ne39
returns-then-at-ne39 c =
    c.then_some.ensures ∙ quoting_end c.loop-q.invariant c.if-b-eq39.true (λ e. c.if-at-ne39.true (c.at.ensures ∙ e))

pub overflow_add-q-then-b-eq39 : goal.overflow_add-q-then-b-eq39
overflow_add-q-then-b-eq39 c =
    let h = byte_within c.args.s.now (c.loop-q.q + 1) 39 (omega arith) (sym c.at.ensures ∙ c.if-at-ne39.false) in
    search rules

-- whether the bytes passed are printable, this turn's among them
passed : (c : Joined-printable) → c.if-printable.printable ≡ (c.loop-q.printable && is_printable (get_or c.args.s.now c.loop-q.q 0))
passed c =
    elim c.if-printable.branch [
      | then-printable w ↦ w.printable-is ∙ (w.is_printable-printable.ensures ∙ rw w.if-printable.true)
      | else-printable w ↦ w.printable-is ∙ rw w.if-printable.false
    ]

pub loop-q-preserved : goal.loop-q-preserved
loop-q-preserved c =
    let inv = c.loop-q.invariant in
    rw (passed c)
    (elim c.if-b-eq39.branch [
      | then-b-eq39+else-at-ne39 w ↦ rw w.q-is (quoting_two inv w.if-b-eq39.true (sym w.at.ensures ∙ w.if-at-ne39.false))
      | else-b-eq39 w ↦ rw w.q-is (quoting_byte inv (omega arith) w.if-b-eq39.false)
    ])

pub returns : goal.returns
returns c = quoting_open c.loop-q.invariant (omega arith)
