use mathlib.Core.Path.{sym, ◌∙◌}
use native.Mathlib.Omega.{arith}
use Rattle.split.proofs.Scanning.{scan_end, scan_quote, scan_quoted, scan_operator, scan_on}
use Rattle.split.proofs.scan.Goals as goal
use Rattle.split.proofs.scan.Goals.{then-byte-eq39, else-byte-eq39+then-not-quoted+else-is_some, else-byte-eq39+else-not-quoted}

pub loop-at-preserved : goal.loop-at-preserved
loop-at-preserved c =
    elim c.if-byte-eq39.branch [
      | then-byte-eq39 w ↦ rw w.quoted-is (scan_quote _ _ _ _ c.loop-at.invariant (omega arith) w.if-byte-eq39.true)
      | else-byte-eq39+then-not-quoted+else-is_some w ↦
          rw w.quoted-is (scan_on _ _ _ _ c.loop-at.invariant (omega arith) w.if-byte-eq39.false w.if-not-quoted.true
          _ w.byte_at.ensures _ w.operator-here.ensures (sym w.is_some.ensures ∙ w.if-is_some.false))
      | else-byte-eq39+else-not-quoted w ↦
          rw w.quoted-is (scan_quoted _ _ _ _ c.loop-at.invariant (omega arith) w.if-byte-eq39.false w.if-not-quoted.false)
    ]

pub returns-then-is_some : goal.returns-then-is_some
returns-then-is_some c =
    scan_operator _ _ _ _ c.loop-at.invariant (omega arith) c.if-byte-eq39.false c.if-not-quoted.true
    _ c.byte_at.ensures _ c.operator-here.ensures (sym c.is_some.ensures ∙ c.if-is_some.true)

pub returns : goal.returns
returns c = scan_end _ _ _ _ c.loop-at.invariant (omega arith)
