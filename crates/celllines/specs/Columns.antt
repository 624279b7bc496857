-- What the lines of cells leave in the columns and in the pool: the cells alone in the columns, their texts in the pool, or zeros from
-- end to end where a line is malformed or not all fits. Assumes nothing.
use Rattle.std.specs.Prelude.{ℕ, ◌+◌, ◌≤◌, Bool, true, false, ◌&&◌, List, ◌≡◌, leb, length, replicate, set, Result, Ok, Err}
use Rattle.std.proofs.lemmas.List.Edits.{sets}
use Rattle.memory.specs.Memory.{fits, all_or_zeros, page_of}
use Rattle.model.specs.Sheet.{CellColumns}
use Rattle.grammar.specs.Gram.{Got}
use Rattle.grammar.specs.Gram.Got.{got, bad}
use Rattle.grammar.specs.Parts.{times_p}
use Rattle.fields.specs.Room.{roomy}
use Rattle.jobtext.specs.Written.{CellLine}
use Rattle.jobtext.specs.Text.{cell_line}
use Rattle.jobtext.specs.Laid.{cell_bytes, columns_from}
use Rattle.fields.specs.declared.Malformed.{Malformed}
use Rattle.celllines.specs.declared.ReadCell.{ReadCell}
use Rattle.celllines.specs.declared.LinesRead.{LinesRead}
use Rattle.celllines.specs.declared.Section.{Section}

abbrev pub columns : List ℕ → List ℕ → List ℕ → List ℕ → List ℕ → List ℕ → List ℕ → CellColumns
columns rows cols kinds wraps nums ats lens =
    record { rows = rows; cols = cols; kinds = kinds; wraps = wraps; nums = nums; ats = ats; lens = lens }

-- a cell at an index, where there is room
abbrev pub stored_cell : ℕ → ReadCell → CellColumns → CellColumns
stored_cell i c d =
    columns (set d.rows i c.row) (set d.cols i c.col) (set d.kinds i c.kind) (set d.wraps i c.wraps)
    (set d.nums i c.num) (set d.ats i c.at) (set d.lens i c.len)

-- columns over others, from an index on
abbrev pub overlaid : ℕ → CellColumns → CellColumns → CellColumns
overlaid i c d =
    columns (sets d.rows i c.rows) (sets d.cols i c.cols) (sets d.kinds i c.kinds) (sets d.wraps i c.wraps)
    (sets d.nums i c.nums) (sets d.ats i c.ats) (sets d.lens i c.lens)

-- all lines, with the place after them and up to where the pool is used, or the place at which they cannot be read on
pub data CellsLeft : Type 0 where
  done : ℕ → ℕ → CellColumns → List ℕ → CellsLeft
  stopped : ℕ → CellsLeft

-- what lines leave that are stored from index i and from u in the pool on
abbrev pub left_of : ℕ → ℕ → Got (List CellLine) → CellColumns → List ℕ → CellsLeft
left_of i u (got cs q) d pool = CellsLeft.done q (u + length (cell_bytes cs)) (overlaid i (columns_from u cs) d) (sets pool u (cell_bytes cs))
left_of i u (bad p) d pool = CellsLeft.stopped p

-- nothing is said of the pool where its texts do not fit
abbrev pub IsLeft : CellsLeft → Result LinesRead Malformed → CellColumns → List ℕ → Type 0
IsLeft (CellsLeft.done q u d pool) r e after =
    (r ≡ Ok (record { next = q; used = u })) × (e ≡ d) × (u ≤ length pool → after ≡ pool)
IsLeft (CellsLeft.stopped p) r e after = r ≡ Err (record { at = p })

-- ---- the whole section

abbrev pub zeroed : List ℕ → List ℕ
zeroed l = replicate (length l) 0

abbrev pub zero_columns : CellColumns → CellColumns
zero_columns d =
    columns (zeroed d.rows) (zeroed d.cols) (zeroed d.kinds) (zeroed d.wraps) (zeroed d.nums) (zeroed d.ats) (zeroed d.lens)

abbrev pub cells_if : Bool → List ℕ → ℕ → ℕ → Got (List CellLine)
cells_if true s at n = times_p n cell_line.parse s at
cells_if false s at n = bad at

-- n lines from a place on, in a text of at most 65,536 bytes that stands no further in the pool than in the text
unfoldable pub cells_at : List ℕ → ℕ → ℕ → ℕ → Got (List CellLine)
cells_at s at n used = cells_if (roomy s at used) s at n

-- whether n cells are within each column
abbrev pub held : ℕ → CellColumns → Bool
held n d =
    leb n (length d.rows) && leb n (length d.cols) && leb n (length d.kinds) && leb n (length d.wraps)
    && leb n (length d.nums) && leb n (length d.ats) && leb n (length d.lens)

-- whether cells are within the columns, and their texts, from `used` on, within the pool
abbrev pub all_fit : ℕ → List CellLine → CellColumns → List ℕ → Bool
all_fit used cs d pool = held (length cs) d && fits (length pool) used (length (cell_bytes cs))

abbrev pub section_of : ℕ → Got (List CellLine) → CellColumns → List ℕ → Result Section Malformed
section_of used (got cs q) d pool = Ok (record { fits = all_fit used cs d pool; next = q; used = used + length (cell_bytes cs) })
section_of used (bad p) d pool = Err (record { at = p })

-- columns of the lengths of d that hold c alone, or zeros from end to end
abbrev pub pages : Bool → CellColumns → CellColumns → CellColumns
pages ok c d =
    columns (page_of ok (length d.rows) c.rows) (page_of ok (length d.cols) c.cols)
    (page_of ok (length d.kinds) c.kinds) (page_of ok (length d.wraps) c.wraps) (page_of ok (length d.nums) c.nums)
    (page_of ok (length d.ats) c.ats) (page_of ok (length d.lens) c.lens)

abbrev pub columns_after : ℕ → Got (List CellLine) → CellColumns → List ℕ → CellColumns
columns_after used (got cs q) d pool = pages (all_fit used cs d pool) (columns_from used cs) d
columns_after used (bad p) d pool = zero_columns d

abbrev pub pool_after : ℕ → Got (List CellLine) → CellColumns → List ℕ → List ℕ
pool_after used (got cs q) d pool = all_or_zeros (all_fit used cs d pool) pool used (cell_bytes cs)
pool_after used (bad p) d pool = zeroed pool
