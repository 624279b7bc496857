-- What the lines of regions leave in their two columns: the regions alone, or zeros from end to end where a line is malformed or the
-- regions do not fit both columns. Assumes nothing.
use Rattle.std.specs.Prelude.{ℕ, Bool, ◌&&◌, List, map, ◌≡◌, leb, length, replicate, Result, Ok, Err}
use Rattle.std.proofs.lemmas.List.Edits.{sets}
use Rattle.memory.specs.Memory.{page_of}
use Rattle.model.specs.declared.CellCoordinate.{CellCoordinate}
use Rattle.grammar.specs.Gram.{Got}
use Rattle.grammar.specs.Gram.Got.{got, bad}
use Rattle.fields.specs.declared.Malformed.{Malformed}
use Rattle.regionlines.specs.declared.ReadRegion.{ReadRegion}
use Rattle.regionlines.specs.declared.RegionSection.{RegionSection}

abbrev pub rows_of : List CellCoordinate → List ℕ
rows_of rs = map (λ (r : CellCoordinate). r.row) rs

abbrev pub cols_of : List CellCoordinate → List ℕ
cols_of rs = map (λ (r : CellCoordinate). r.col) rs

-- a line
abbrev pub region_of : Got CellCoordinate → Result ReadRegion Malformed
region_of (got c q) = Ok (record { row = c.row; col = c.col; next = q })
region_of (bad p) = Err (record { at = p })

-- lines that are stored from index i on, where there is room, over columns that held rows and cols
abbrev pub AreRegions : ℕ → Got (List CellCoordinate) → List ℕ → List ℕ → Result ℕ Malformed → List ℕ → List ℕ → Type 0
AreRegions i (got rs q) rows cols r rows' cols' =
    (r ≡ Ok q) × (rows' ≡ sets rows i (rows_of rs)) × (cols' ≡ sets cols i (cols_of rs))
AreRegions i (bad p) rows cols r rows' cols' = r ≡ Err (record { at = p })

-- ---- the whole section

-- whether n regions are within both columns
abbrev pub held : ℕ → List ℕ → List ℕ → Bool
held n rows cols = leb n (length rows) && leb n (length cols)

abbrev pub section_of : Got (List CellCoordinate) → List ℕ → List ℕ → Result RegionSection Malformed
section_of (got rs q) rows cols = Ok (record { fits = held (length rs) rows cols; next = q })
section_of (bad p) rows cols = Err (record { at = p })

abbrev pub rows_after : Got (List CellCoordinate) → List ℕ → List ℕ → List ℕ
rows_after (got rs q) rows cols = page_of (held (length rs) rows cols) (length rows) (rows_of rs)
rows_after (bad p) rows cols = replicate (length rows) 0

abbrev pub cols_after : Got (List CellCoordinate) → List ℕ → List ℕ → List ℕ
cols_after (got rs q) rows cols = page_of (held (length rs) rows cols) (length cols) (cols_of rs)
cols_after (bad p) rows cols = replicate (length cols) 0
