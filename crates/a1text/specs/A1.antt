-- References in A1 form (document 02, T-04): what a text reads as, which references have a text, and what that text is, all three from one
-- definition; and what is read and written of an operand. Assumes nothing.
use Rattle.std.specs.Prelude.{ℕ, ◌+◌, ◌-◌, ◌≡◌, Bool, true, cond, not, ◌&&◌, List, leb, eqb, length}
use Rattle.std.proofs.Math.Option.{Option, none, some}
use Rattle.model.specs.declared.A1Reference.{A1Reference}
use Rattle.model.specs.Sheet.{max_row, max_col}
use Rattle.model.specs.Split.{formula}
use Rattle.model.specs.Job.{bad_name}
use Rattle.grammar.specs.Gram.{Got, Gram}
use Rattle.grammar.specs.Gram.Got.{got, bad}
use Rattle.grammar.specs.Parts.{then}
use Rattle.jobtext.specs.Written.{Reference}
use Rattle.jobtext.specs.Said.{reference_said}
use Rattle.a1text.specs.Names.{Name, is_name, is_bare}
use Rattle.a1text.specs.Columns.{column_number, column_text}
use Rattle.a1text.specs.Spelling.{Spelling, spelling}

-- ---- what a spelling means

unfoldable pub name_meant : Name → Option (List ℕ)
name_meant Name.this = none
name_meant (Name.bare bs) = some bs
name_meant (Name.quoted bs) = some bs

-- rows and columns of a reference count from 0
unfoldable pub means : Spelling → Reference
means p =
    record {
      row = p.row - 1;
      col = column_number p.letters - 1;
      row_absolute = p.row_absolute;
      col_absolute = p.col_absolute;
      name = name_meant p.name;
    }

-- ---- the one spelling in which a reference is written

-- quoted unless it needs no quotes
unfoldable pub name_spelled : Option (List ℕ) → Name
name_spelled none = Name.this
name_spelled (some bs) = cond (is_bare bs) (Name.bare bs) (Name.quoted bs)

-- in capital letters
unfoldable pub spelled : Reference → Spelling
spelled r =
    record {
      name = name_spelled r.name;
      col_absolute = r.col_absolute;
      letters = column_text r.col;
      row_absolute = r.row_absolute;
      row = r.row + 1;
    }

-- ---- the grammar

unfoldable pub is_named : Option (List ℕ) → Bool
is_named none = true
is_named (some bs) = is_name bs

-- on the grid, with a name that can be typed or none
unfoldable pub has_text : Reference → Bool
has_text r = leb r.row max_row && leb r.col max_col && is_named r.name

abbrev pub a1 : Gram Reference
a1 =
    record {
      parse = λ s at. then (spelling.parse s at) (λ p q. got (means p) q);
      Ok = λ r. has_text r ≡ true;
      text = λ r. spelling.text (spelled r);
    }

-- s is the text of a spelling that means r
pub record Spells (s : List ℕ) (r : Reference) : Type 0 where
  pub by : Spelling
  pub ok : spelling.Ok by
  pub text : s ≡ spelling.text by
  pub meant : means by ≡ r

-- ---- whole texts

-- what was read, where nothing follows it in a text of n bytes
unfoldable pub ending : {A : Type 0} → Got A → ℕ → Option A
ending (got a q) n = cond (eqb q n) (some a) none
ending (bad p) n = none

-- the reference that a whole text is
unfoldable pub reference_of : List ℕ → Option Reference
reference_of s = ending (a1.parse s 0) (length s)

-- what the bytes of an operand read as, without what the split drops
unfoldable pub operand_read : List ℕ → Option Reference
operand_read bs = reference_of (formula bs)

-- ---- a reference to be written, whose name is bytes of a pool

unfoldable pub writable : List ℕ → A1Reference → Bool
writable pool r = not (bad_name pool r.sheet) && has_text (reference_said pool r)

unfoldable pub operand_written : List ℕ → A1Reference → Option (List ℕ)
operand_written pool r = cond (writable pool r) (some (a1.text (reference_said pool r))) none
