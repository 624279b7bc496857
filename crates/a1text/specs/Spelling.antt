-- A reference as it is typed: each text that is accepted is the text of one spelling. Assumes nothing.
use Rattle.std.specs.Prelude.{ℕ, Bool, List}
use Rattle.grammar.specs.Gram.{Gram}
use Rattle.grammar.specs.Parts.{both, read_as}
use Rattle.a1text.specs.Names.{Name, sheet_name}
use Rattle.a1text.specs.Columns.{letters, row, mark}

-- the letters in the case in which they are typed, the row from 1 on
pub record Spelling : Type 0 where
  pub name : Name
  pub col_absolute : Bool
  pub letters : List ℕ
  pub row_absolute : Bool
  pub row : ℕ

abbrev pub spelling_t : Type 0
spelling_t = Name × (Bool × (List ℕ × (Bool × ℕ)))

abbrev pub to_spelling : spelling_t → Spelling
to_spelling x =
    record { name = x.0; col_absolute = x.1.0; letters = x.1.1.0; row_absolute = x.1.1.1.0; row = x.1.1.1.1 }

abbrev pub of_spelling : Spelling → spelling_t
of_spelling p = (p.name, (p.col_absolute, (p.letters, (p.row_absolute, p.row))))

-- a name or none, `$` or not, letters, `$` or not, digits
unfoldable pub spelling : Gram Spelling
spelling = read_as to_spelling of_spelling (both sheet_name (both mark (both letters (both mark row))))
