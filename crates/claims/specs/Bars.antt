-- Where a bar comes from (document 02), as statements only: of the two bar columns that the call over lent columns leaves, and of the bar
-- lines in the report of a whole job. The words are those of crates/barlaws/specs/Origin.antt. proofs/BarsHeld.antt proves them.
-- Assumes nothing.
use Rattle.std.specs.Prelude.{ℕ, zero, suc, ◌<◌, ◌≡◌, List, [], ◌++◌, get_or, take}
use Rattle.model.specs.Options.{Answer}
use Rattle.model.specs.Run.{IndexedRule}
use Rattle.model.specs.Answer.{summary}
use Rattle.model.specs.Job.{Job, rules_of, region_count, sheet_of}
use Rattle.model.specs.Columns.{Columns}
use Rattle.barlaws.specs.Origin.{PpmIn, HasMark, region_at, Origin, BarFrom}
use Rattle.grammar.specs.Parts.{space, line_feed}
use Rattle.jobtext.specs.Written.{JobText}
use Rattle.jobtext.specs.Text.{job}
use Rattle.jobtext.specs.Read.{ReadResult, Readable}
use Rattle.jobtext.specs.Laid.{laid}
use Rattle.jobtext.specs.Decided.{decided}
use Rattle.reporttext.specs.Report.{number, summary_text, marks_text, shaped_at, bar_names}
use Rattle.claims.specs.Claims.{Where, Ends, IsAnswered}
use Rattle.claims.specs.WholeJobs.{Lent, Prints}

-- ---- of the call over lent columns

-- among the first n marks of the columns the rule with this index has one on the region with that one
pub record MarkIn (n : ℕ) (c : Columns) (rule region : ℕ) : Type 0 where
  pub place : ℕ
  pub within : place < n
  pub of_rule : get_or c.rules place 0 ≡ rule
  pub on_region : get_or c.regions place 0 ≡ region

-- the rule that the bar of region k comes from, by the marks that the call leaves
abbrev pub OriginIn : Job → Answer → Columns → ℕ → IndexedRule → Type 0
OriginIn j a after k i = Origin (sheet_of j) (rules_of j) (MarkIn (summary a).marks after) k (region_at j k) i

-- after every answer the bar columns hold, for each region, the rule that its bar comes from plus one and its ppm, or 0 and 0
abbrev pub BarsOfAnswers : Type 0
BarsOfAnswers = (w : Where) (j : Job) (limit : ℕ) (before after : Columns) (a : Answer) → Ends w j limit before a after → IsAnswered a
    → (k : ℕ) → k < region_count j → BarFrom (sheet_of j) (rules_of j) (MarkIn (summary a).marks after) k (region_at j k)
    (get_or after.bar_rules k 0) (get_or after.bar_ppms k 0)

-- the worked job of document 01: the bar of region 1 comes from rule 0, though rule 1 is earlier and has stop-if-true and a mark, since
-- that is on region 2; there the bar comes from none
pub record WorkedBars (j : Job) (a : Answer) (after : Columns) : Type 0 where
  pub is_answered : IsAnswered a
  pub stopping : MarkIn (summary a).marks after 1 2
  pub drawn : (i : IndexedRule) × (i.index ≡ 0) × OriginIn j a after 1 i
  pub none : (i : IndexedRule) → OriginIn j a after 2 i → ⊥

-- so the words are met: of a job, a limit and lent columns each ending that the contract of the call allows is such an answer
pub record BarsMet : Type 0 where
  pub job : Job
  pub limit : ℕ
  pub before : Columns
  pub answers : (w : Where) (after : Columns) (a : Answer) → Ends w job limit before a after → WorkedBars job a after

-- ---- of the report of a whole job

-- the line of a bar: region, rule, ppm
abbrev pub bar_line : ℕ → ℕ → ℕ → List ℕ
bar_line region rule ppm = number space region ++ (number space rule ++ number line_feed ppm)

-- the texts of the n regions from k on
unfoldable pub lines_from : (ℕ → List ℕ) → ℕ → ℕ → List ℕ
lines_from line k zero = []
lines_from line k (suc n) = line k ++ lines_from line (suc k) n

-- the rule that the bar of region k of a job text comes from, by the marks of its result, which the report prints
abbrev pub OriginOn : JobText → ℕ → IndexedRule → Type 0
OriginOn j k i =
    Origin (sheet_of (laid j)) (rules_of (laid j)) (HasMark (decided (ReadResult.is j)).marks) k (region_at (laid j) k) i

-- a report of an answered job text: the answer, the marks, and the regions one after the other
pub record BarLines (j : JobText) (report : List ℕ) : Type 0 where
  -- what it has of the bar of each region
  pub line : ℕ → List ℕ
  pub is : report ≡ summary_text (decided (ReadResult.is j)).summary
      ++ (marks_text (shaped_at (rules_of (laid j))) (decided (ReadResult.is j)).marks
      ++ (bar_names ++ lines_from line 0 (region_count (laid j))))
  -- the line of the rule that the bar comes from
  pub drawn : (k : ℕ) → k < region_count (laid j) → (i : IndexedRule) (o : OriginOn j k i)
      → (ppm : ℕ) × (line k ≡ bar_line k i.index ppm) × PpmIn (sheet_of (laid j)) i.rule.range o.number ppm
  -- otherwise nothing
  pub otherwise : (k : ℕ) → k < region_count (laid j) → ((i : IndexedRule) → OriginOn j k i → ⊥) → line k ≡ []
  -- and so a region with a line has a rule that its bar comes from
  pub from : (k : ℕ) → k < region_count (laid j) → (line k ≡ [] → ⊥) → (i : IndexedRule) × OriginOn j k i

-- so it is in the bytes that the exported call leaves, unless they were too few and it gave 0
abbrev pub BarsOfReports : Type 0
BarsOfReports = (l : Lent) (text before after : List ℕ) (r : ℕ) → Prints l text before r after → 0 < r
    → (j : JobText) → Readable j → text ≡ job.text j → (decided (ReadResult.is j)).summary.number ≡ 0 → BarLines j (take r after)
