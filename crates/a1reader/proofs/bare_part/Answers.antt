-- `a1reader::bare_part` meets its contract, test by test. Assumes nothing.
use mathlib.Core.Path.{◌≡◌, sym, ap, ◌∙◌}
use lib.ListN.{get_or}
use Rattle.a1text.specs.Bytes.{is_letter}
use Rattle.a1reader.proofs.Names.{bare_this, bare_none, bare_long, bare_read}
use Rattle.a1reader.proofs.bare_part.Goals as goal
use Rattle.a1reader.proofs.bare_part.Goals.{After-is_letter, then-not-is_letter-via-then-not-is_letter, then-not-is_letter-via-else-not-is_letter+then-length-gt-MAX_NAME}

pub returns-then-at-ne33 : goal.returns-then-at-ne33
returns-then-at-ne33 c = bare_this _ _ c.word_end-length.ensures (λ e. c.if-at-ne33.true (c.at.ensures ∙ e))

mark : (c : After-is_letter) → get_or c.args.s.now c.word_end-length.result 0 ≡ 33
mark c = sym c.at.ensures ∙ c.if-at-ne33.false

-- whether the first byte is a letter
first : (c : After-is_letter) → is_letter (get_or c.args.s.now 0 0) ≡ c.is_letter.result
first c = ap is_letter (sym c.at-2.ensures) ∙ sym c.is_letter.ensures

pub returns-then-not-is_letter : goal.returns-then-not-is_letter
returns-then-not-is_letter c =
    let p = (goal.at.returns-then-not-is_letter c).After-is_letter in
    elim c.then-not-is_letter.branch [
      | then-not-is_letter-via-then-not-is_letter w ↦ bare_none _ _ c.word_end-length.ensures (mark p) (first p ∙ w.if-not-is_letter.true)
      | then-not-is_letter-via-else-not-is_letter+then-length-gt-MAX_NAME w ↦
          bare_long _ _ c.word_end-length.ensures (mark p) (first p ∙ w.if-not-is_letter.false) w.if-length-gt-MAX_NAME.true
    ]

pub returns : goal.returns
returns c =
    let p = (goal.at.returns c).After-is_letter in
    bare_read _ _ c.word_end-length.ensures (mark p) (first p ∙ c.if-not-is_letter.false) c.if-length-gt-MAX_NAME.false
