-- What the parts of the reader answer for each result of the grammar; the place at which a text can't be read on is told to nobody.
-- Assumes nothing.
use Rattle.std.specs.Prelude.{ℕ, zero, suc, ◌+◌, ◌-◌, Bool, false, cond, ◌&&◌, List, [], ◌∷◌, leb, eqb, length, get_or, Option, Some, None, unwrap_or, option_map}
use Rattle.model.specs.Readings.{every}
use Rattle.grammar.specs.Gram.{Got, Gram}
use Rattle.grammar.specs.Gram.Got.{got, bad}
use Rattle.grammar.specs.Parts.{both}
use Rattle.model.specs.Options.{SheetName}
use Rattle.fields.specs.declared.Field.{Field}
use Rattle.a1text.specs.Bytes.{is_printable}
use Rattle.a1text.specs.Names.{Name}
use Rattle.a1text.specs.Columns.{columns, column_from, column_number, letters, row, mark}
use Rattle.a1reader.specs.declared.Mark.{Mark}
use Rattle.a1reader.specs.declared.Between.{Between}
use Rattle.a1reader.specs.declared.NamePart.{NamePart}
use Rattle.a1reader.specs.declared.CellPart.{CellPart}
use Rattle.a1reader.specs.declared.Word.{Word}
use Rattle.a1reader.specs.declared.NamedCell.{NamedCell}

-- ---- the cell

abbrev pub mark_of : Got Bool → Mark
mark_of (got b q) = record { absolute = b; next = q }
mark_of (bad p) = record { absolute = false; next = 0 }

-- letters cs from q on, behind others that have the number n
abbrev pub column_of : ℕ → ℕ → List ℕ → Option Field
column_of n q cs =
    cond (leb 1 (column_from n cs) && leb (column_from n cs) columns)
    (Some (record { value = column_from n cs; next = q + length cs }))
    None

-- `$` or not, letters, `$` or not, digits
abbrev pub cell_t : Type 0
cell_t = Bool × (List ℕ × (Bool × ℕ))

abbrev pub cell : Gram cell_t
cell = both mark (both letters (both mark row))

-- a cell up to the end of a text of n bytes
abbrev pub cell_of : ℕ → Got cell_t → Option CellPart
cell_of n (got x q) =
    cond (eqb q n)
    (Some (record {
      row = x.1.1.1 - 1;
      col = column_number x.1.0 - 1;
      row_absolute = x.1.1.0;
      col_absolute = x.0;
    }))
    None
cell_of n (bad p) = None

-- ---- the name

-- what stands between quotes behind n other bytes, which are printable if `ok` is true
abbrev pub between_of : ℕ → Bool → Got (List ℕ) → Option Between
between_of n ok (got bs q) = cond (ok && every is_printable bs) (Some (record { length = n + length bs; next = q })) None
between_of n ok (bad p) = None

abbrev pub this_sheet : ℕ → Option NamePart
this_sheet q = Some (record { name = None; next = q })

-- a name of n bytes that stands from a place on
abbrev pub named : ℕ → ℕ → ℕ → Option NamePart
named at n q = Some (record { name = Some (record { first = at; length = n }); next = q })

-- a name at the start of a text, or none
abbrev pub name_of : Got Name → Option NamePart
name_of (got Name.this q) = this_sheet q
name_of (got (Name.bare bs) q) = named 0 (length bs) q
name_of (got (Name.quoted bs) q) = named 1 (length bs) q
name_of (bad p) = None

-- with a cell, if there is one
abbrev pub with_cell : NamePart → Option CellPart → Option NamedCell
with_cell sheet None = None
with_cell sheet (Some cell) = Some (record { sheet = sheet; cell = cell })

-- the name and the cell behind it; none behind what is no name
abbrev pub parts_of : List ℕ → Option NamePart → Option NamedCell
parts_of s None = None
parts_of s (Some sheet) = with_cell sheet (cell_of (length s) (cell.parse s sheet.next))

-- the bytes of the name, none of them where there is no name
abbrev pub word_in : NamePart → Word
word_in p = unwrap_or p.name (record { first = 0; length = 0 })

-- the name is stored from the first of the lent bytes on
abbrev pub sheet_of : NamePart → SheetName
sheet_of p = option_map (λ (w : Word). record { at = 0; len = w.length }) p.name

-- k bytes of a name that stands from a place on, of which a quote stands twice
unfoldable pub name_from : ℕ → List ℕ → ℕ → List ℕ
name_from zero s at = []
name_from (suc k) s at = get_or s at 0 ∷ name_from k s (cond (eqb (get_or s at 0) 39) (at + 2) (at + 1))
