-- What reading a text into memory of its own answers: the job that the text says and its limit, or why there is none. No text is too long
-- for the memory. Assumes nothing.
use Rattle.std.specs.Prelude.{◌≡◌, Option, Result, Ok, Err, None, Some, replicate}
use Rattle.model.specs.Lent.{job_lent}
use Rattle.model.specs.declared.Rules.{Rules}
use Rattle.jobtext.specs.Read.{ReadResult}
use Rattle.jobtext.specs.Laid.{blank_rule, laid}
use Rattle.reader.specs.declared.Unread.{Unread}
use Rattle.jobmemory.specs.declared.space.LimitedJob.{LimitedJob}
use Rattle.jobmemory.specs.declared.space.JobMemory.{JobMemory}

abbrev pub ReadAs : ReadResult → Result LimitedJob Unread → Type 0
ReadAs (ReadResult.is j) (Ok r) = (job_lent r.job ≡ laid j) × (r.limit ≡ j.limit)
ReadAs (ReadResult.is j) (Err e) = ⊥
ReadAs ReadResult.too_long r = r ≡ Err Unread.TooLong
ReadAs (ReadResult.bad_line line) r = r ≡ Err (Unread.Malformed line)
ReadAs (ReadResult.too_many start) r = r ≡ Err (Unread.TooMany start)

-- zeros, and these rules
abbrev pub zeros_with : Option Rules → JobMemory
zeros_with rules =
    record {
      rows = replicate 1024 0;
      cols = replicate 1024 0;
      kinds = replicate 1024 0;
      wraps = replicate 1024 0;
      nums = replicate 1024 0;
      ats = replicate 1024 0;
      lens = replicate 1024 0;
      region_rows = replicate 1024 0;
      region_cols = replicate 1024 0;
      pool = replicate 32_768 0;
      rules = rules;
    }

-- zeros, and no rules yet
abbrev pub empty_memory : JobMemory
empty_memory = zeros_with None

-- zeros and blank records
abbrev pub blank_memory : JobMemory
blank_memory = zeros_with (Some (record { records = replicate 64 blank_rule; number = 0 }))
