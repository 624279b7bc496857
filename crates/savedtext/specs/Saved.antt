-- What saving a lent job as text comes to (document 02, T-01): the text, by the grammar of the job text, of what the job says; one of the
-- refusals 1 to 5 of deciding; or 13, where the text does not fit. Assumes nothing.
use Rattle.std.specs.Prelude.{ℕ, Bool, cond, ◌||◌, List, ltb, eqb, length}
use Rattle.std.proofs.Math.Option.{Option, none, some}
use Rattle.memory.specs.Memory.{page_of}
use Rattle.model.specs.Answer.{Summary, refusal, answer}
use Rattle.model.specs.Job.{Job, malformed}
use Rattle.jobtext.specs.Text.{job}
use Rattle.jobtext.specs.Read.{max_text}
use Rattle.jobtext.specs.Said.{job_said}

-- the text of a lent job with a limit
unfoldable pub text_of : ℕ → Job → List ℕ
text_of limit j = job.text (job_said limit j)

-- longer than the lent bytes, of which there are `room`, or than a job text may be
unfoldable pub too_long_for : ℕ → List ℕ → Bool
too_long_for room text = ltb room (length text) || ltb max_text (length text)

-- 13 with the length needed, or written: 0, 0, S, 0
unfoldable pub fitted : ℕ → ℕ → List ℕ → Summary
fitted start room text = cond (too_long_for room text) (refusal 13 0 start (length text)) (answer start 0 0 0)

abbrev pub first_summary : Option Summary → Summary → Summary
first_summary none later = later
first_summary (some s) later = s

-- the number and values that saving comes to, in `room` lent bytes
unfoldable pub saved : ℕ → Job → ℕ → Summary
saved limit j room = first_summary (malformed j) (fitted j.start room (text_of limit j))

unfoldable pub is_saved : ℕ → Job → ℕ → Bool
is_saved limit j room = eqb (saved limit j room).number 0

-- how many of the lent bytes the text takes, 0 after a refusal
unfoldable pub saved_length : ℕ → Job → ℕ → ℕ
saved_length limit j room = cond (is_saved limit j room) (length (text_of limit j)) 0

-- the lent bytes: the text and zeros behind it, or zeros from end to end after a refusal
unfoldable pub saved_bytes : ℕ → Job → ℕ → List ℕ
saved_bytes limit j room = page_of (is_saved limit j room) room (text_of limit j)
