-- What reading a job text comes to: the job that it says, or the refusal 10, 11 or the early 2 (document 01, 'Turned back').
-- Assumes nothing.
use Rattle.std.specs.Prelude.{ℕ, ◌≤◌, ◌≡◌, Bool, false, cond, ◌||◌, List, ltb, eqb, length}
use Rattle.model.specs.Sheet.{max_cells, max_regions, max_rules}
use Rattle.grammar.specs.Gram.{Got, line_of}
use Rattle.grammar.specs.Gram.Got.{got, bad}
use Rattle.jobtext.specs.Written.{JobText}
use Rattle.jobtext.specs.Text.{Head, body_t, head, body, to_job, of_job, job}

pub data ReadResult : Type 0 where
  is : JobText → ReadResult
  -- 10
  too_long : ReadResult
  -- 11, with the number of the first line that is malformed, missing or extra
  bad_line : ℕ → ReadResult
  -- 2 right after the second line, with the starting count
  too_many : ℕ → ReadResult

-- the most bytes of a job text
abbrev pub max_text : ℕ
max_text = 65_536

-- the second line says more cells, regions or rules than a job may have
unfoldable pub over : Head → Bool
over h = ltb max_cells h.cells || ltb max_regions h.regions || ltb max_rules h.rules

-- a job that is read: it has a text, its counts are not over, and the text is not too long
pub record Readable (j : JobText) : Type 0 where
  pub ok : job.Ok j
  pub counts : over (of_job j).0 ≡ false
  pub fits : length (job.text j) ≤ max_text

-- nothing may follow the last line
unfoldable pub closed : List ℕ → Head → Got body_t → ReadResult
closed s h (got b q) = cond (eqb q (length s)) (ReadResult.is (to_job (h, b))) (ReadResult.bad_line (line_of s q))
closed s h (bad p) = ReadResult.bad_line (line_of s p)

unfoldable pub headed : List ℕ → Got Head → ReadResult
headed s (got h q) = let sections = closed s h ((body h).parse s q) in cond (over h) (ReadResult.too_many h.start) sections
headed s (bad p) = ReadResult.bad_line (line_of s p)

unfoldable pub read : List ℕ → ReadResult
read s = let lines = headed s (head.parse s 0) in cond (ltb max_text (length s)) ReadResult.too_long lines
