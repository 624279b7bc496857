-- The reference of a whole text from its name and its cell: what is answered, and what the bytes lent are. Assumes nothing.
use Rattle.a1reader.specs.declared.ReadError.{ReadError}
use Rattle.std.specs.Prelude.{Option as Optional, Some, None, Ok, Err}
use Prim.Native.Nat.{ℕ, ◌-◌, ◌≤◌, ◌<◌}
use mathlib.Core.Path.{◌≡◌, refl, sym, ◌∙◌}
use mathlib.Core.Bool.{Bool, true, false}
use mathlib.Core.List.{List}
use mathlib.Core.Option.{Option, none, some}
use native.Mathlib.Omega.{arith}
use lib.Dec.{eqb}
use lib.ListN.{length}
use lib.Seq.{sets}
use borrow.Author.Tests.{le-leb, lt-leb}
use Rattle.model.specs.Split.{formula}
use Rattle.model.specs.Options.{SheetName}
use Rattle.put.specs.Put.{kept_bytes}
use Rattle.put.proofs.Keeping.{none_kept}
use Rattle.grammar.specs.Gram.{Got}
use Rattle.grammar.specs.Gram.Got.{got, bad}
use Rattle.jobtext.specs.Written.{Reference}
use Rattle.jobtext.specs.Laid.{name_bytes, reference_at}
use Rattle.a1text.specs.Names.{Name, name_p}
use Rattle.a1text.specs.Columns.{column_number}
use Rattle.a1text.specs.Spelling.{spelling}
use Rattle.a1text.specs.A1.{name_meant, means, ending, reference_of, operand_read}
use Rattle.a1reader.specs.Answers.{ReadReference}
use Rattle.a1reader.specs.declared.NamePart.{NamePart}
use Rattle.a1reader.specs.declared.CellPart.{CellPart}
use Rattle.a1reader.specs.Answers.{read_answer, read_bytes}
use Rattle.a1reader.specs.declared.NamedCell.{NamedCell}
use Rattle.a1reader.specs.Parts.{cell_t, cell, cell_of, name_of, with_cell, parts_of, name_from, word_in, sheet_of}
use Rattle.a1reader.proofs.Storing.{stored_page, cleared_page}
use Rattle.a1reader.proofs.Sheets.{Named, no_name_read, name_read}

-- ---- the cell behind the name

-- a reference to a cell, with a name
abbrev pub reference_to : CellPart → Name → Reference
reference_to c n =
    record {
      row = c.row;
      col = c.col;
      row_absolute = c.row_absolute;
      col_absolute = c.col_absolute;
      name = name_meant n;
    }

-- the name and the cell of a text that is a reference
pub record Whole (t : List ℕ) (sheet : NamePart) (part : CellPart) : Type 0 where
  pub named : Named t sheet
  pub read : reference_of t ≡ some (reference_to part named.name)

module _ (t : List ℕ) where
  module _ {sheet : NamePart} (n : Named t sheet) where
    no_cell_told : None ≡ cell_of (length t) (cell.parse t sheet.next) → reference_of t ≡ none
    unfolding reference_of ending spelling means
    no_cell_told told = go (cell.parse t sheet.next) refl told
      where
        go : (g : Got cell_t) → cell.parse t sheet.next ≡ g → None ≡ cell_of (length t) g → reference_of t ≡ none
        go (got x e) p h = last (eqb e (length t)) refl
          where
            last : (b : Bool) → eqb e (length t) ≡ b → reference_of t ≡ none
            last true q = let no = rw q at h in cc
            last false q = rw (n.is, p, q)
        go (bad e) p h = rw (n.is, p)

    cell_told : {part : CellPart} → Some part ≡ cell_of (length t) (cell.parse t sheet.next) → Whole t sheet part
    unfolding reference_of ending spelling means
    cell_told {part} told = go (cell.parse t sheet.next) refl told
      where
        go : (g : Got cell_t) → cell.parse t sheet.next ≡ g → Some part ≡ cell_of (length t) g → Whole t sheet part
        go (got x e) p h = last (eqb e (length t)) refl
          where
            last : (b : Bool) → eqb e (length t) ≡ b → Whole t sheet part
            last true q =
                let is = rw q at h in
                let same : part ≡ record {
                  row = x.1.1.1 - 1;
                  col = column_number x.1.0 - 1;
                  row_absolute = x.1.1.0;
                  col_absolute = x.0;
                } = cc in
                rw same (record { named = n; read = rw (n.is, p, q) })
            last false q = let no = rw q at h in cc
        go (bad e) p h = cc

  pub whole_none : None ≡ parts_of t (name_of (name_p t 0)) → reference_of t ≡ none
  whole_none told = go (name_of (name_p t 0)) refl told
    where
      go : (o : Optional NamePart) → name_of (name_p t 0) ≡ o → None ≡ parts_of t o → reference_of t ≡ none
      go None e h = no_name_read t (sym e)
      go (Some sheet) e h = last (cell_of (length t) (cell.parse t sheet.next)) refl h
        where
          last : (x : Optional CellPart) → cell_of (length t) (cell.parse t sheet.next) ≡ x → None ≡ with_cell sheet x → reference_of t ≡ none
          last None f k = no_cell_told (name_read t (sym e)) (sym f)
          last (Some part) f k = cc

  pub whole_read : {p : NamedCell} → Some p ≡ parts_of t (name_of (name_p t 0)) → Whole t p.sheet p.cell
  whole_read {p} told = go (name_of (name_p t 0)) refl told
    where
      go : (o : Optional NamePart) → name_of (name_p t 0) ≡ o → Some p ≡ parts_of t o → Whole t p.sheet p.cell
      go None e h = cc
      go (Some sheet) e h = last (cell_of (length t) (cell.parse t sheet.next)) refl h
        where
          last : (x : Optional CellPart) → cell_of (length t) (cell.parse t sheet.next) ≡ x → Some p ≡ with_cell sheet x → Whole t p.sheet p.cell
          last None f k = cc
          last (Some part) f k =
              let same : p ≡ record { sheet = sheet; cell = part } = cc in
              rw same (cell_told (name_read t (sym e)) (sym f))

-- ---- the answer

-- what is answered of an operand, and the bytes lent afterwards, l before
pub record Answered (operand l : List ℕ) (a : ReadReference) (e : List ℕ) : Type 0 where
  pub answer : a ≡ read_answer (operand_read operand) (length l)
  pub bytes : e ≡ read_bytes (operand_read operand) (length l)

module _ (operand : List ℕ) {t : List ℕ} (f : t ≡ formula operand) (l : List ℕ) where
  read_of : (o : Option Reference) → reference_of t ≡ o → operand_read operand ≡ o
  unfolding operand_read
  read_of o e = rw (← f) e

  pub answered_none : {e : List ℕ} → reference_of t ≡ none → e ≡ kept_bytes l 0 → Answered operand l (Err ReadError.NoReference) e
  unfolding read_answer read_bytes
  answered_none {e} r k = let o = read_of none r in record { answer = rw o; bytes = rw o (k ∙ none_kept l) }

  module _ {sheet : NamePart} {part : CellPart} (w : Whole t sheet part) where
    abbrev name : List ℕ
    name = name_bytes (name_meant w.named.name)

    size : (word_in sheet).length ≡ length name
    size = w.named.part.length

    o : operand_read operand ≡ some (reference_to part w.named.name)
    o = read_of (some (reference_to part w.named.name)) w.read

    pub answered_long : {e : List ℕ} → length l < (word_in sheet).length → e ≡ kept_bytes l 0 → Answered operand l (Err ReadError.NameTooLong) e
    unfolding read_answer read_bytes
    answered_long {e} h k =
        let over : length l < length name = omega (arith, size) in
        record { answer = rw (o, lt-leb (length name) (length l) over); bytes = rw o (k ∙ cleared_page l name over) }

    pub answered_read : {d e : List ℕ} {s : SheetName} → (word_in sheet).length ≤ length l
        → d ≡ sets l 0 (name_from (word_in sheet).length t (word_in sheet).first) → e ≡ kept_bytes d (word_in sheet).length → s ≡ sheet_of sheet
        → Answered operand l
        (Ok (record {
          sheet = s;
          row = part.row;
          col = part.col;
          row_absolute = part.row_absolute;
          col_absolute = part.col_absolute;
        })) e
    unfolding read_answer read_bytes reference_at
    answered_read {d} {e} {s} h stored kept named =
        let fits : length name ≤ length l = omega (arith, size) in
        record {
          answer = rw (o, le-leb (length name) (length l) fits, named, w.named.part.at);
          bytes = rw o (kept ∙ (rw (stored, w.named.part.bytes, size) (stored_page l name fits)));
        }

-- bytes that are no reference, said of a text whose parts were looked for
module _ (t operand l : List ℕ) (f : t ≡ formula operand) (none_there : None ≡ parts_of t (name_of (name_p t 0))) where
  pub none_answer : Err ReadError.NoReference ≡ read_answer (operand_read operand) (length l)
  none_answer = let a = answered_none operand f l {e = kept_bytes l 0} (whole_none t none_there) refl in a.answer

  pub none_bytes : {e : List ℕ} → e ≡ kept_bytes l 0 → e ≡ read_bytes (operand_read operand) (length l)
  none_bytes {e} k = let a = answered_none operand f l {e = e} (whole_none t none_there) k in a.bytes
