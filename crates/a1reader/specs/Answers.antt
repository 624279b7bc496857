-- What reading an operand comes to: the answer, document 02's number and values for each case of it, and the bytes lent for the name.
-- Assumes nothing.
use Rattle.a1reader.specs.declared.ReadError.{ReadError}
use Rattle.std.specs.Prelude.{ℕ, cond, List, leb, length, replicate, Result, Ok, Err}
use Rattle.std.proofs.Math.Option.{Option, none, some}
use Rattle.memory.specs.Memory.{page}
use Rattle.model.specs.Answer.{Summary, refusal, answer}
use Rattle.jobtext.specs.Written.{Reference}
use Rattle.jobtext.specs.Laid.{name_bytes, reference_at}
use Rattle.model.specs.declared.A1Reference.{A1Reference}

-- a reference, or why a text is not read
abbrev pub ReadReference : Type 0
ReadReference = Result A1Reference ReadError

-- of what the bytes read as and the number of bytes that are lent; the name stands from their first on
unfoldable pub read_answer : Option Reference → ℕ → ReadReference
read_answer none room = Err ReadError.NoReference
read_answer (some r) room = cond (leb (length (name_bytes r.name)) room) (Ok (reference_at 0 r)) (Err ReadError.NameTooLong)

-- the name and zeros past it; zeros from end to end where it does not fit, and without a reference
unfoldable pub read_bytes : Option Reference → ℕ → List ℕ
read_bytes none room = replicate room 0
read_bytes (some r) room = page room (name_bytes r.name)

unfoldable pub summary_of : ReadReference → Summary
summary_of (Ok r) = answer 0 0 0 0
summary_of (Err ReadError.NoReference) = refusal 14 0 0 0
summary_of (Err ReadError.NameTooLong) = refusal 15 0 0 0
