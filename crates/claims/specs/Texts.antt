-- What is claimed of job texts and of reports, as statements only, over the definitions of crates/jobtext and crates/reporttext. Of a text
-- they speak by its values and their texts (`Ok`, `text`), never by how it is read (`parse`). proofs/TextsHeld.antt proves them.
-- Assumes nothing.
use Rattle.std.specs.Prelude.{ℕ, ◌+◌, ◌*◌, ◌^◌, ◌≤◌, ◌<◌, ◌≡◌, ◌↔◌, true, false, List, [], ◌∷◌, ℤ, length}
use Rattle.std.specs.Float.{fin}
use Rattle.std.specs.Float.Ieee.{up, down}
use types.Run.{OneOf}
use Rattle.model.specs.declared.Rgb.{Rgb}
use Rattle.model.specs.declared.Rule.{Rule}
use Rattle.model.specs.Ratio.{rounded, packed}
use Rattle.model.specs.Sheet.{value_of}
use Rattle.model.specs.Answer.{Result, refusal, refused}
use Rattle.model.specs.Job.{Lengths, result}
use Rattle.grammar.specs.Gram.{line_feeds}
use Rattle.grammar.specs.Numbers.{decimal}
use Rattle.jobtext.specs.Written.{JobText, with_limit}
use Rattle.jobtext.specs.Fields.{colour}
use Rattle.jobtext.specs.Text.{of_job, job}
use Rattle.jobtext.specs.Read.{ReadResult, max_text, over, Readable, read}
use Rattle.jobtext.specs.Lines.{FirstBad, SaysTooMany}
use Rattle.jobtext.specs.Laid.{laid}
use Rattle.jobtext.specs.Said.{value_said, Means, job_said}
use Rattle.jobtext.specs.Decided.{decided}
use Rattle.reporttext.specs.Report as Report
use Rattle.reporttext.specs.Report.{report_of, bar_count}
use Rattle.reporttext.specs.Reports.{report_on}
use Rattle.reporttext.specs.Longest.{longest}

-- ---- what a text is read as: one of four, and each exactly where it says

-- a text is accepted as a job exactly if it is the text of that job, which has one
abbrev pub ReadExactly : Type 0
ReadExactly = (s : List ℕ) (j : JobText) → (read s ≡ ReadResult.is j) ↔ (Readable j × (s ≡ job.text j))

-- 10 is said of the texts of more than 65,536 bytes
abbrev pub TooLong : Type 0
TooLong = (s : List ℕ) → (read s ≡ ReadResult.too_long) ↔ (max_text < length s)

-- 11 names the first line that is malformed, missing or extra: those before it are texts of the lines that are expected there, and what
-- follows them does not begin with a text of the next, or none is expected and something follows
abbrev pub BadLine : Type 0
BadLine = (s : List ℕ) (n : ℕ) → (read s ≡ ReadResult.bad_line n) ↔ ((length s ≤ max_text) × FirstBad n s)

-- the early 2 is said of the texts whose first two lines are well formed and say more cells, regions or rules than a job may have
abbrev pub TooMany : Type 0
TooMany = (s : List ℕ) (start : ℕ) → (read s ≡ ReadResult.too_many start) ↔ ((length s ≤ max_text) × SaysTooMany start s)

-- one job, one text
abbrev pub OneText : Type 0
OneText = (j k : JobText) → Readable j → Readable k → job.text j ≡ job.text k → j ≡ k

-- ---- the job that a text is read as

-- the columns, the pool and the rules that it is laid in say what the text says: every coordinate, wrap, kind and bit, the bytes of every
-- text and name, every field of every rule
abbrev pub SheetLaid : Type 0
SheetLaid = (j : JobText) → Readable j → job_said j.limit (laid j) ≡ j

-- and a cell's value is decided on as it is said, for lent columns of any kind
abbrev pub SeenAsSaid : Type 0
SeenAsSaid = (pool : List ℕ) (kind bits at len : ℕ) → Means pool (value_said pool kind bits at len) (value_of kind bits at len)

-- ---- the numbers of a text

-- a text is answered or refused with one of these, never with 1, 5 or 6
abbrev pub NumbersOfTexts : Type 0
NumbersOfTexts = (s : List ℕ) → OneOf (0 ∷ 2 ∷ 3 ∷ 4 ∷ 7 ∷ 8 ∷ 9 ∷ 10 ∷ 11 ∷ []) (decided (read s)).summary.number

-- one that is accepted as a job is never refused with 2
abbrev pub NumbersOfJobs : Type 0
NumbersOfJobs = (j : JobText) → Readable j → OneOf (0 ∷ 3 ∷ 4 ∷ 7 ∷ 8 ∷ 9 ∷ []) (decided (ReadResult.is j)).summary.number

-- the early 2 is the call's own: a text that goes on as its second line says has a job that the call refuses so, at any limit and in any
-- space
abbrev pub EarlyTwo : Type 0
EarlyTwo = (j : JobText) → over (of_job j).0 ≡ true → (limit : ℕ) (l : Lengths)
    → result (laid j) limit l ≡ refused (refusal 2 0 j.start 0)

-- ---- the limit

-- no mark moves when the limit is raised: what is answered has the same result at every greater limit
abbrev pub Monotone : Type 0
Monotone = (j : JobText) (limit : ℕ) → (decided (ReadResult.is j)).summary.number ≡ 0 → j.limit ≤ limit
    → decided (ReadResult.is (with_limit limit j)) ≡ decided (ReadResult.is j)

-- ---- reports

-- 2 lines for a refusal; 4 for an answer, and one for each mark and each bar
pub record Lines (rules : List Rule) (r : Result) : Type 0 where
  pub refusal : (r.summary.number ≡ 0 → ⊥) → line_feeds (report_of rules r) ≡ 2
  pub answer : r.summary.number ≡ 0 → line_feeds (report_of rules r) ≡ 4 + length r.marks + bar_count r.states

abbrev pub LinesOfReports : Type 0
LinesOfReports = (rules : List Rule) (r : Result) → Lines rules r

-- a job text whose report has the most bytes that any report can have
pub record LongestAttained : Type 0 where
  pub text : List ℕ
  pub fits : length text ≤ max_text
  pub attained : length (report_on text) ≡ longest

-- numbers and colours are written as in a job text
abbrev pub NumberAsInJobs : Type 0
NumberAsInJobs = (limit end n : ℕ) → Report.number end n ≡ (decimal limit end).text n

abbrev pub ColourAsInJobs : Type 0
ColourAsInJobs = (end : ℕ) (c : Rgb) → c.red < 256 → c.green < 256 → c.blue < 256
    → Report.colour end (packed c) ≡ (colour (end ∷ [])).text c

-- ---- rounding

-- m × 2^e = m × up e / down e, below 2^32 - 1/2, is rounded to the nearest whole number, and halves away from zero
abbrev pub RoundedToNearest : Type 0
RoundedToNearest = (m : ℕ) (e : ℤ) → 2 * (m * up e) + down e < 2 * 2 ^ 32 * down e
    → (2 * rounded (fin false m e) * down e ≤ 2 * (m * up e) + down e)
    × (2 * (m * up e) + down e < 2 * (rounded (fin false m e) + 1) * down e)
