-- What writing a reference comes to: the answer, document 02's number and values for each case of it, and the bytes lent for the text.
-- Assumes nothing.
use Rattle.a1writer.specs.declared.WriteError.{WriteError}
use Rattle.std.specs.Prelude.{ℕ, cond, List, leb, length, replicate, Result, Ok, Err}
use Rattle.std.proofs.Math.Option.{Option, none, some}
use Rattle.memory.specs.Memory.{page}
use Rattle.model.specs.Answer.{Summary, refusal, answer}

-- how many bytes the text of a reference takes, or why it is not written
abbrev pub WrittenReference : Type 0
WrittenReference = Result ℕ WriteError

-- of the text of a reference, if it has one, and the number of bytes that are lent
unfoldable pub write_answer : Option (List ℕ) → ℕ → WrittenReference
write_answer none room = Err WriteError.NoReference
write_answer (some text) room = cond (leb (length text) room) (Ok (length text)) (Err WriteError.TextTooLong)

-- the text and zeros past it; zeros from end to end where it does not fit, and without one
unfoldable pub write_bytes : Option (List ℕ) → ℕ → List ℕ
write_bytes none room = replicate room 0
write_bytes (some text) room = page room text

unfoldable pub summary_of : WrittenReference → Summary
summary_of (Ok length) = answer 0 0 0 0
summary_of (Err WriteError.NoReference) = refusal 14 0 0 0
summary_of (Err WriteError.TextTooLong) = refusal 15 0 0 0
