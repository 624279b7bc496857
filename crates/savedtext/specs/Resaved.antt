-- What a job text comes to that is read and saved again in some lent bytes: its text or, where it is turned away, the two lines of a
-- refused report. Assumes nothing.
use Rattle.std.specs.Prelude.{ℕ, cond, List}
use Rattle.model.specs.Answer.{refusal}
use Rattle.reporttext.specs.Report.{summary_text}
use Rattle.jobtext.specs.Read.{ReadResult}
use Rattle.jobtext.specs.Laid.{laid}
use Rattle.savedtext.specs.Saved.{text_of, saved, is_saved}

-- in `room` bytes
unfoldable pub resaved : ℕ → ReadResult → List ℕ
resaved room (ReadResult.is j) =
    cond (is_saved j.limit (laid j) room) (text_of j.limit (laid j)) (summary_text (saved j.limit (laid j) room))
resaved room ReadResult.too_long = summary_text (refusal 10 0 0 0)
resaved room (ReadResult.bad_line line) = summary_text (refusal 11 line 0 0)
resaved room (ReadResult.too_many start) = summary_text (refusal 2 0 start 0)
