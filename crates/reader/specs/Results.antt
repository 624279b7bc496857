-- The contracts of the reader's inner functions, in the shape of the program: its two first lines with the tests on length and counts,
-- the sections behind them, and the end. What reading a job text comes to is defined in jobtext (`read`) and Held.antt; nothing here adds
-- to it. Assumes nothing.
use Rattle.std.specs.Prelude.{ℕ, ◌+◌, ◌≤◌, Bool, true, false, cond, ◌&&◌, List, ◌≡◌, eqb, leb, length, Result, Ok, Err}
use Rattle.memory.specs.Memory.{all_or_zeros, page_of}
use Rattle.model.specs.Sheet.{CellColumns}
use Rattle.grammar.specs.Gram.{Got, line_of}
use Rattle.grammar.specs.Gram.Got.{got, bad}
use Rattle.jobtext.specs.Text.{Head, tail_t, body_t, head}
use Rattle.jobtext.specs.Read.{ReadResult, over}
use Rattle.jobtext.specs.Laid.{cell_bytes, columns_from, rule_bytes, laid}
use Rattle.celllines.specs.Columns.{pages}
use Rattle.regionlines.specs.Regions.{rows_of, cols_of}
use Rattle.fields.specs.declared.Malformed.{Malformed}
use Rattle.rulelines.specs.declared.RuleSection.{RuleSection}
use Rattle.rulelines.specs.RuleSections.{section_of as rules_of}
use Rattle.reader.specs.declared.Start.{Start}
use Rattle.reader.specs.declared.ReadJob.{ReadJob}
use Rattle.reader.specs.declared.Unread.{Unread}
use Rattle.reader.specs.Held.{Held, held, fits_in, laid_in}

-- ---- behind the cells

-- the regions are alone in columns that are long enough; the rules' names go to a pool from `used` on
abbrev pub IsTail : Got tail_t → ℕ → List ℕ → List ℕ → List ℕ → Result RuleSection Malformed → List ℕ → List ℕ → List ℕ → Type 0
IsTail (got x q) used rows cols pool r rows' cols' pool' =
    (r ≡ rules_of used (length pool) (got x.1 q))
    × (length x.0 ≤ length rows → length x.0 ≤ length cols
    → (rows' ≡ page_of true (length rows) (rows_of x.0)) × (cols' ≡ page_of true (length cols) (cols_of x.0)))
    × (pool' ≡ all_or_zeros true pool used (rule_bytes x.1))
IsTail (bad p) used rows cols pool r rows' cols' pool' = r ≡ Err (record { at = p })

-- ---- all sections

-- numbers of cells and regions, against the lengths of seven columns and of two
abbrev pub columns_fit : ℕ → ℕ → ℕ → ℕ → ℕ → ℕ → ℕ → ℕ → ℕ → ℕ → ℕ → Bool
columns_fit cells regions rows cols kinds wraps nums ats lens region_rows region_cols =
    leb cells rows
    && leb cells cols
    && leb cells kinds
    && leb cells wraps
    && leb cells nums
    && leb cells ats
    && leb cells lens
    && leb regions region_rows
    && leb regions region_cols

-- against what is lent
abbrev pub columns_in : ℕ → ℕ → CellColumns → List ℕ → List ℕ → Bool
columns_in cells regions d rows cols =
    columns_fit cells regions (length d.rows) (length d.cols) (length d.kinds) (length d.wraps) (length d.nums)
    (length d.ats) (length d.lens) (length rows) (length cols)

-- cells and regions are alone in columns that are long enough, and the texts go to the pool from `used` on, if they fit
abbrev pub IsBody : Got body_t → ℕ → Held → Result RuleSection Malformed → Held → Type 0
IsBody (got b q) used h r e =
    let u = used + length (cell_bytes b.0) in
    (r ≡ rules_of u (length h.pool) (got b.1.1 q))
    × (columns_in (length b.0) (length b.1.0) h.cells h.region_rows h.region_cols
    && leb (u + length (rule_bytes b.1.1)) (length h.pool) ≡ true
    → e ≡ held (pages true (columns_from used b.0) h.cells) (page_of true (length h.region_rows) (rows_of b.1.0))
    (page_of true (length h.region_cols) (cols_of b.1.0))
    (all_or_zeros true (all_or_zeros true h.pool used (cell_bytes b.0)) u (rule_bytes b.1.1)))
IsBody (bad p) used h r e = r ≡ Err (record { at = p })

-- ---- the first two lines

abbrev pub started : Head → ℕ → Start
started h q =
    record {
      limit = h.limit;
      start = h.start;
      cells = h.cells;
      regions = h.regions;
      rules = h.rules;
      name = length h.name;
      next = q;
    }

abbrev pub start_of : List ℕ → Got Head → Result Start Unread
start_of s (got h q) = cond (over h) (Err (Unread.TooMany h.start)) (Ok (started h q))
start_of s (bad p) = Err (Unread.Malformed (line_of s p))

-- too long, or as the first two lines say
abbrev pub start_if : Bool → List ℕ → Result Start Unread
start_if true s = Err Unread.TooLong
start_if false s = start_of s (head.parse s 0)

-- the pool holds the sheet's name where nothing is refused yet
abbrev pub Named : Bool → Got Head → List ℕ → List ℕ → Type 0
Named true g pool pool' = Unit {0}
Named false (got h q) pool pool' = pool' ≡ page_of true (length pool) h.name
Named false (bad p) pool pool' = Unit {0}

-- ---- the end of the text

-- nothing may follow the sections, and the job has to fit
abbrev pub finished_if : Bool → Bool → List ℕ → Start → RuleSection → Result ReadJob Unread
finished_if true true s t b =
    Ok (record {
      start = t.start;
      limit = t.limit;
      cells = t.cells;
      regions = t.regions;
      used = b.used;
      name = record { at = 0; len = t.name };
      rules = b.rules;
    })
finished_if true false s t b = Err (Unread.SpaceShort t.start)
finished_if false fits s t b = Err (Unread.Malformed (line_of s b.next))

abbrev pub finished : List ℕ → Start → Result RuleSection Malformed → Bool → Result ReadJob Unread
finished s t (Ok b) fits = finished_if (eqb b.next (length s)) (fits && b.fits) s t b
finished s t (Err m) fits = Err (Unread.Malformed (line_of s m.at))

-- what was left where a job was read that fits
abbrev pub JobLeft : ReadResult → Held → Held → Type 0
JobLeft (ReadResult.is j) h e = fits_in (laid j) h ≡ true → e ≡ laid_in true (laid j) h
JobLeft ReadResult.too_long h e = Unit {0}
JobLeft (ReadResult.bad_line line) h e = Unit {0}
JobLeft (ReadResult.too_many start) h e = Unit {0}
