-- What a whole job comes to: the result of the job that its text says, in space for 1,024 marks, or the refusal of the text
-- (document 01, 'Turned back'). Assumes nothing.
use Rattle.std.specs.Prelude.{ℕ, List, []}
use Rattle.model.specs.declared.Rule.{Rule}
use Rattle.model.specs.Sheet.{max_cells, max_regions}
use Rattle.model.specs.Answer.{Result, refusal, refused}
use Rattle.model.specs.Job.{Lengths, rules_of, result}
use Rattle.jobtext.specs.Read.{ReadResult}
use Rattle.jobtext.specs.Laid.{laid}

-- the marks of a whole job
abbrev pub max_marks : ℕ
max_marks = 1024

unfoldable pub whole_space : Lengths
whole_space =
    record {
      regions = max_marks;
      rules = max_marks;
      kinds = max_marks;
      colours = max_marks;
      ppms = max_marks;
      shapes = max_marks;
      bar_rules = max_regions;
      bar_ppms = max_regions;
      scratch = max_cells;
    }

unfoldable pub decided : ReadResult → Result
decided (ReadResult.is j) = result (laid j) j.limit whole_space
decided ReadResult.too_long = refused (refusal 10 0 0 0)
decided (ReadResult.bad_line line) = refused (refusal 11 line 0 0)
decided (ReadResult.too_many start) = refused (refusal 2 0 start 0)

-- the rules of the job; a refused text has none
unfoldable pub rules_read : ReadResult → List Rule
rules_read (ReadResult.is j) = rules_of (laid j)
rules_read ReadResult.too_long = []
rules_read (ReadResult.bad_line line) = []
rules_read (ReadResult.too_many start) = []
