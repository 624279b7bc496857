-- What the writer leaves in the lent bytes, and what is then shown of its answer. Assumes nothing.
use Rattle.std.specs.Prelude.{ℕ, ◌≡◌, List, length, take, Ok, Err}
use Rattle.memory.specs.Memory.{page, page_length}
use Rattle.model.specs.Answer.{refusal, refused_by}
use Rattle.reporttext.specs.Report.{summary_text}
use Rattle.writer.specs.declared.SaveError.{SaveError}
use Rattle.writer.specs.Answers.{Saved}

-- the text that was written, or the two lines of a refusal
abbrev pub shown : Saved → List ℕ → List ℕ
shown (Ok written) d = take written.length d
shown (Err (SaveError.Refused r)) d = summary_text (refused_by r)
shown (Err (SaveError.TooLong count actual)) d = summary_text (refusal 13 0 count actual)

-- a text that was written stands in the bytes with zeros behind it
abbrev pub Left : Saved → List ℕ → Type 0
Left (Ok written) d =
    (written.length ≡ page_length (length d) (take written.length d)) × (d ≡ page (length d) (take written.length d))
Left (Err e) d = Unit {0}
