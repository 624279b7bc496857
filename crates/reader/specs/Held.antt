-- What reading a whole job text answers, and what it leaves in the columns and in the pool: the job alone from index 0 on, or zeros from
-- end to end where the text is refused or the job is longer than a column or the pool. Assumes nothing.
use Rattle.std.specs.Prelude.{ℕ, Bool, cond, ◌&&◌, List, leb, length, Result, Ok, Err}
use Rattle.memory.specs.Memory.{page_of}
use Rattle.model.specs.Sheet.{CellColumns}
use Rattle.model.specs.Job.{Job}
use Rattle.jobtext.specs.Read.{ReadResult}
use Rattle.jobtext.specs.Laid.{laid}
use Rattle.celllines.specs.Columns.{zero_columns, zeroed, pages}
use Rattle.reader.specs.declared.ReadJob.{ReadJob}
use Rattle.reader.specs.declared.Unread.{Unread}

-- ---- the answer

-- a job as it is laid, with the limit
abbrev pub taken_as : Job → ℕ → ReadJob
taken_as j limit =
    record {
      start = j.start;
      limit = limit;
      cells = length j.cells.rows;
      regions = length j.region_rows;
      used = length j.pool;
      name = j.name;
      rules = j.rules;
    }

-- ---- what is lent

pub record Held : Type 0 where
  pub cells : CellColumns
  pub region_rows : List ℕ
  pub region_cols : List ℕ
  pub pool : List ℕ

abbrev pub held : CellColumns → List ℕ → List ℕ → List ℕ → Held
held cells region_rows region_cols pool =
    record { cells = cells; region_rows = region_rows; region_cols = region_cols; pool = pool }

-- each part of a job is as long as its memory at most
unfoldable pub fits_in : Job → Held → Bool
fits_in j h =
    leb (length j.cells.rows) (length h.cells.rows)
    && leb (length j.cells.cols) (length h.cells.cols)
    && leb (length j.cells.kinds) (length h.cells.kinds)
    && leb (length j.cells.wraps) (length h.cells.wraps)
    && leb (length j.cells.nums) (length h.cells.nums)
    && leb (length j.cells.ats) (length h.cells.ats)
    && leb (length j.cells.lens) (length h.cells.lens)
    && leb (length j.region_rows) (length h.region_rows)
    && leb (length j.region_cols) (length h.region_cols)
    && leb (length j.pool) (length h.pool)

-- each memory with its part of a job alone, or zeros
abbrev pub laid_in : Bool → Job → Held → Held
laid_in ok j h =
    held (pages ok j.cells h.cells) (page_of ok (length h.region_rows) j.region_rows)
    (page_of ok (length h.region_cols) j.region_cols) (page_of ok (length h.pool) j.pool)

abbrev pub cleared : Held → Held
cleared h = held (zero_columns h.cells) (zeroed h.region_rows) (zeroed h.region_cols) (zeroed h.pool)

-- ---- the reader

unfoldable pub read_job : Held → ReadResult → Result ReadJob Unread
read_job h (ReadResult.is j) = cond (fits_in (laid j) h) (Ok (taken_as (laid j) j.limit)) (Err (Unread.SpaceShort j.start))
read_job h ReadResult.too_long = Err Unread.TooLong
read_job h (ReadResult.bad_line line) = Err (Unread.Malformed line)
read_job h (ReadResult.too_many start) = Err (Unread.TooMany start)

unfoldable pub held_after : ReadResult → Held → Held
held_after (ReadResult.is j) h = laid_in (fits_in (laid j) h) (laid j) h
held_after ReadResult.too_long h = cleared h
held_after (ReadResult.bad_line line) h = cleared h
held_after (ReadResult.too_many start) h = cleared h
