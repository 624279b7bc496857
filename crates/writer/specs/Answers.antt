-- Document 02's number and values for each case of the writer's answer, and how many bytes it says that the text takes. Assumes nothing.
use Rattle.std.specs.Prelude.{ℕ, ◌≡◌, not, cond, List, length, Result, Ok, Err}
use Rattle.memory.specs.Memory.{page_of}
use Rattle.model.specs.Answer.{Summary, refusal, answer, refused_by}
use Rattle.savedtext.specs.Saved.{too_long_for, fitted}
use Rattle.writer.specs.declared.Written.{Written}
use Rattle.writer.specs.declared.SaveError.{SaveError}

-- what a job is saved as, or why it is not
abbrev pub Saved : Type 0
Saved = Result Written SaveError

unfoldable pub summary_of : Saved → Summary
summary_of (Ok written) = answer written.count 0 0 0
summary_of (Err (SaveError.Refused r)) = refused_by r
summary_of (Err (SaveError.TooLong count actual)) = refusal 13 0 count actual

unfoldable pub length_of : Saved → ℕ
length_of (Ok written) = written.length
length_of (Err e) = 0

-- what writing a text comes to, of a job that no check refuses: s and n are the answer, d the lent bytes before and e after it
pub record Wrote (s : Summary) (n start : ℕ) (text d e : List ℕ) : Type 0 where
  pub answer : s ≡ fitted start (length d) text
  pub bytes : e ≡ page_of (not (too_long_for (length d) text)) (length d) text
  pub length : n ≡ cond (too_long_for (length d) text) 0 (length text)
