-- `a1reader::quoted_part` meets its contract, test by test. Assumes nothing.
use mathlib.Core.Path.{sym, ◌∙◌}
use native.Mathlib.Omega.{arith}
use borrow.Author.Rules.{rules}
use Rattle.a1reader.proofs.Quotes.{byte_within}
use Rattle.a1reader.proofs.Names.{quoted_broken, quoted_none, quoted_long, quoted_alone, quoted_read}
use Rattle.a1reader.proofs.quoted_part.Goals as goal
use Rattle.a1reader.proofs.quoted_part.Goals.{then-length-eq0-via-then-length-eq0, then-length-eq0-via-else-length-eq0+then-length-gt-MAX_NAME, then-length-eq0-via-else-length-eq0+else-length-gt-MAX_NAME+then-at-ne33}

pub returns-in_err-found : goal.returns-in_err-found
returns-in_err-found c = c.from_residual.ensures ∙ quoted_broken _ c.in_err-found.ensures

pub returns-then-length-eq0 : goal.returns-then-length-eq0
returns-then-length-eq0 c =
    let found = c.in_ok-found.ensures in
    elim c.then-length-eq0.branch [
      | then-length-eq0-via-then-length-eq0 w ↦ quoted_none _ found w.if-length-eq0.true
      | then-length-eq0-via-else-length-eq0+then-length-gt-MAX_NAME w ↦ quoted_long _ found w.if-length-eq0.false w.if-length-gt-MAX_NAME.true
      | then-length-eq0-via-else-length-eq0+else-length-gt-MAX_NAME+then-at-ne33 w ↦
          quoted_alone _ found w.if-length-eq0.false w.if-length-gt-MAX_NAME.false (λ e. w.if-at-ne33.true (w.at.ensures ∙ e))
    ]

pub overflow_add-result : goal.overflow_add-result
overflow_add-result c =
    let h = byte_within c.args.s.now c.in_ok-found.found.next 33 (omega arith) (sym c.at.ensures ∙ c.if-at-ne33.false) in
    search rules

pub returns : goal.returns
returns c =
    quoted_read _ c.in_ok-found.ensures c.if-length-eq0.false c.if-length-gt-MAX_NAME.false (sym c.at.ensures ∙ c.if-at-ne33.false)
