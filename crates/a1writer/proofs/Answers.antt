-- The answer and the lent bytes: without a text, where it is longer than they are, and where it fits. Assumes nothing.
use Rattle.a1writer.specs.declared.WriteError.{WriteError}
use Rattle.std.specs.Prelude.{Ok, Err}
use Prim.Native.Nat.{ℕ, ◌≤◌, ◌<◌}
use native.Mathlib.Omega.{arith}
use mathlib.Core.Path.{◌≡◌, refl, ap, ◌∙◌}
use mathlib.Core.Bool.{true, false}
use mathlib.Core.List.{List}
use mathlib.Core.Option.{Option}
use lib.ListN.{length, replicate}
use borrow.Author.Tests.{le-leb, lt-leb}
use Rattle.model.specs.declared.A1Reference.{A1Reference}
use Rattle.jobtext.specs.Said.{reference_said}
use Rattle.a1text.specs.A1.{a1, writable, operand_written}
use Rattle.put.specs.Put.{last, Laid, kept_length, kept_bytes}
use Rattle.put.proofs.Laws.{stops_of_laid, laid_length}
use Rattle.put.proofs.Keeping.{kept_page}
use Rattle.a1writer.specs.Answers.{WrittenReference}
use Rattle.a1writer.specs.Answers.{write_answer, write_bytes}

-- d are the lent bytes before, f after
abbrev Answered : Option (List ℕ) → WrittenReference → List ℕ → List ℕ → Type 0
Answered o answer d f = (answer ≡ write_answer o (length d)) × (f ≡ write_bytes o (length d))

module _ (pool : List ℕ) (r : A1Reference) where
  pub none_written : (d : List ℕ) {f : List ℕ} → writable pool r ≡ false → f ≡ replicate (length d) 0
      → Answered (operand_written pool r) (Err WriteError.NoReference) d f
  unfolding operand_written write_answer write_bytes
  none_written d w b = rw w (refl, b)

  module _ {d e f : List ℕ} {q n : ℕ} (w : writable pool r ≡ true) (room : length d < last)
      (a : Laid d 0 (a1.text (reference_said pool r)) e q) (k : n ≡ kept_length (length e) q) (b : f ≡ kept_bytes e n) where
    pub long_written : length d < q → Answered (operand_written pool r) (Err WriteError.TextTooLong) d f
    unfolding operand_written write_answer write_bytes
    long_written h =
        let next = a.next in
        let over : length d < length (a1.text (reference_said pool r)) = omega arith in
        rw (w, lt-leb _ _ over) (refl, (kept_page (stops_of_laid room a) k b).bytes)

    pub whole_written : q ≤ length d → Answered (operand_written pool r) (Ok n) d f
    unfolding operand_written write_answer write_bytes
    whole_written h =
        let next = a.next in
        let end : q ≡ length (a1.text (reference_said pool r)) = omega arith in
        let fits : length (a1.text (reference_said pool r)) ≤ length d = omega arith in
        let kept : n ≡ length (a1.text (reference_said pool r)) = k ∙ (rw (laid_length a, end, le-leb _ _ fits)) in
        rw (w, le-leb _ _ fits) (ap Ok kept, (kept_page (stops_of_laid room a) k b).bytes)
