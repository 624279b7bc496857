use mathlib.Core.Path.{◌≡◌, refl, sym, ◌∙◌}
use mathlib.Core.Bool.{true}
use native.Mathlib.Omega.{arith}
use borrow.Author.Rules.{rules}
use lib.ListN.{get_or}
use Rattle.a1text.specs.Bytes.{is_letter}
use Rattle.a1text.proofs.Classes.{letter_number}
use Rattle.a1reader.proofs.Columns.{counted_last, counted_stops, counted_more, counted_over}
use Rattle.a1reader.proofs.column.Goals as goal
use Rattle.a1reader.proofs.column.Goals.{After-letter_number}

pub loop-q-init : goal.loop-q-init
loop-q-init c = record { same = refl; high = omega arith; past = λ h. refl }

pub returns-then-not-is_letter : goal.returns-then-not-is_letter
returns-then-not-is_letter c =
    c.column_found.ensures
    ∙ counted_stops c.loop-q.invariant (omega arith) (sym c.is_letter.ensures ∙ c.if-not-is_letter.true)

letter : (c : After-letter_number) → is_letter (get_or c.args.s.now c.loop-q.q 0) ≡ true
letter c = sym c.is_letter.ensures ∙ c.if-not-is_letter.false

pub overflow_add-number : goal.overflow_add-number
overflow_add-number c =
    let l = letter_number _ (sym c.is_letter.ensures ∙ c.if-not-is_letter.false) in
    let n = c.letter_number.ensures in
    search rules

pub returns-then-number-gt-MAX_COLUMNS : goal.returns-then-number-gt-MAX_COLUMNS
returns-then-number-gt-MAX_COLUMNS c =
    counted_over c.loop-q.invariant c.letter_number.ensures (omega arith)
    (letter (goal.at.returns-then-number-gt-MAX_COLUMNS c).After-letter_number) (omega arith)

pub loop-q-preserved : goal.loop-q-preserved
loop-q-preserved c =
    counted_more c.loop-q.invariant c.letter_number.ensures (omega arith)
    (letter (goal.at.loop-q-preserved c).After-letter_number) (omega arith) (omega arith)

pub returns : goal.returns
returns c = c.column_found-2.ensures ∙ counted_last c.loop-q.invariant (omega arith) (omega arith) (λ h. omega arith)
