-- A cell of marks, letters and digits, as far as each of its parts is read. Assumes nothing.
use Prim.Native.Nat.{ℕ, ◌+◌, ◌-◌, ◌≤◌}
use mathlib.Core.Path.{◌≡◌, refl}
use Rattle.std.specs.Prelude.{Option, Some, None}
use Rattle.std.specs.Result.{result_ok}
use mathlib.Core.Bool.{Bool, true, false, cond, ◌&&◌}
use mathlib.Core.List.{List}
use native.Mathlib.Omega.{arith}
use lib.Dec.{leb, eqb}
use lib.ListN.{length, drop, get_or}
use borrow.Author.Tests.{le-leb, eq-eqb, ne_eqb}
use Rattle.grammar.specs.Gram.{Got}
use Rattle.grammar.specs.Gram.Got.{got, bad}
use Rattle.grammar.specs.Numbers.{decimal_at}
use Rattle.grammar.proofs.Decimals.{read_is}
use Rattle.fields.specs.declared.Field.{Field}
use Rattle.fields.specs.Field.{field_of}
use Rattle.a1text.specs.Bytes.{is_letter, taken}
use Rattle.a1text.specs.Columns.{columns, column_from, column_number, is_column, letters_p, rows, row_p, mark_p}
use Rattle.a1text.proofs.Runs.{taken_passes}
use Rattle.a1text.proofs.Columns.{column_is}
use Rattle.a1reader.specs.declared.Mark.{Mark}
use Rattle.a1reader.specs.Parts.{mark_of, column_of, cell, cell_of}

-- ---- `$` or not

mark_is : {m : Mark} (s : List ℕ) (at : ℕ) → m ≡ mark_of (mark_p s at) → mark_p s at ≡ got m.absolute m.next
unfolding mark_p
mark_is {m} s at e = go (eqb (get_or s at 0) 36) e
  where
    go : (x : Bool) → m ≡ mark_of (cond x (got true (at + 1)) (got false at))
        → cond x (got true (at + 1)) (got false at) ≡ got m.absolute m.next
    go true f = rw f
    go false f = rw f

-- ---- letters

abbrev pub letters_at : List ℕ → ℕ → List ℕ
letters_at s at = taken is_letter (drop at s)

-- the letters were read, and f is their number and the place behind them
pub record Lettered (s : List ℕ) (at : ℕ) (f : Field) : Type 0 where
  pub is : letters_p s at ≡ got (letters_at s at) f.next
  pub number : f.value ≡ column_number (letters_at s at)
  pub low : 1 ≤ f.value
  pub high : f.value ≤ columns

module _ (s : List ℕ) (at : ℕ) where
  abbrev cs : List ℕ
  cs = letters_at s at

  -- all of them are letters, so that their number alone decides
  column_bounds : is_column cs ≡ (leb 1 (column_number cs) && leb (column_number cs) columns)
  unfolding is_column
  column_bounds = rw (taken_passes is_letter (drop at s))

  letters_none : None ≡ column_of 0 at cs → letters_p s at ≡ bad at
  unfolding letters_p column_number
  letters_none told = rw column_bounds (go (leb 1 (column_number cs) && leb (column_number cs) columns) told)
    where
      go : (x : Bool) → ◌≡◌ {A = Option Field} None (cond x (Some (record { value = column_from 0 cs; next = at + length cs })) None)
          → cond x (got cs (at + length cs)) (bad at) ≡ bad at
      go true e = cc
      go false e = refl

  letters_read : {f : Field} → Some f ≡ column_of 0 at cs → Lettered s at f
  unfolding letters_p column_number
  letters_read {f} told = go (is_column cs) refl (rw column_bounds told)
    where
      go : (x : Bool) → is_column cs ≡ x
          → Some f ≡ cond x (Some (record { value = column_from 0 cs; next = at + length cs })) None → Lettered s at f
      go true h e =
          let c = column_is cs h in
          let same : f ≡ record { value = column_from 0 cs; next = at + length cs } = cc in
          rw same (record { is = rw h; number = refl; low = c.low; high = c.high })
      go false h e = cc

-- ---- digits

module _ (s : List ℕ) (at : ℕ) where
  abbrev digits_at : Got ℕ
  digits_at = decimal_at rows at (drop at s)

  number_read : {f : Field} → Some f ≡ result_ok (field_of digits_at) → digits_at ≡ got f.value f.next
  number_read {f} told = go digits_at told
    where
      go : (g : Got ℕ) → Some f ≡ result_ok (field_of g) → g ≡ got f.value f.next
      go (got n q) e = let same : f ≡ record { value = n; next = q } = cc in rw same
      go (bad p) e = cc

  row_bad : (p : ℕ) → digits_at ≡ bad p → row_p s at ≡ bad p
  unfolding row_p
  row_bad p e = rw e

  module _ {f : Field} (told : Some f ≡ result_ok (field_of digits_at)) where
    row_zero : f.value ≡ 0 → row_p s at ≡ bad at
    unfolding row_p
    row_zero z = rw (number_read told, z)

    row_read : (f.value ≡ 0 → ⊥) → row_p s at ≡ got f.value f.next
    unfolding row_p
    row_read z = rw (number_read told, le-leb 1 f.value (omega (arith, z)))

    pub row_high : f.value ≤ rows
    row_high = (read_is rows f.value f.next (omega arith) at (drop at s) (number_read told)).fits

-- ---- a cell up to the end of a text

pub cell_no_letters : {left : Mark} (s : List ℕ) (at : ℕ) → left ≡ mark_of (mark_p s at)
    → None ≡ column_of 0 left.next (letters_at s left.next) → None ≡ cell_of (length s) (cell.parse s at)
cell_no_letters {left} s at l c = rw (mark_is s at l, letters_none s left.next c)

-- what its parts are read as, where the letters are those of a column
pub record Told (s : List ℕ) (at : ℕ) (left : Mark) (col : Field) (right : Mark) : Type 0 where
  pub first : left ≡ mark_of (mark_p s at)
  pub column : Some col ≡ column_of 0 left.next (letters_at s left.next)
  pub second : right ≡ mark_of (mark_p s col.next)

module _ {s : List ℕ} {at : ℕ} {left : Mark} {col : Field} {right : Mark} (t : Told s at left col right) where
  pub told_column : Lettered s left.next col
  told_column = letters_read s left.next t.column

  left_is : mark_p s at ≡ got left.absolute left.next
  left_is = mark_is s at t.first

  letters_are : letters_p s left.next ≡ got (letters_at s left.next) col.next
  letters_are = told_column.is

  right_is : mark_p s col.next ≡ got right.absolute right.next
  right_is = mark_is s col.next t.second

  pub cell_no_row : None ≡ result_ok (field_of (decimal_at rows right.next (drop right.next s)))
      → None ≡ cell_of (length s) (cell.parse s at)
  cell_no_row told = go (digits_at s right.next) refl told
    where
      go : (g : Got ℕ) → digits_at s right.next ≡ g → None ≡ result_ok (field_of g) → None ≡ cell_of (length s) (cell.parse s at)
      go (got n q) e h = cc
      go (bad p) e h = rw (left_is, letters_are, right_is, row_bad s right.next p e)

  module _ {row : Field} (number : Some row ≡ result_ok (field_of (decimal_at rows right.next (drop right.next s)))) where
    pub cell_row_zero : row.value ≡ 0 → None ≡ cell_of (length s) (cell.parse s at)
    cell_row_zero z = rw (left_is, letters_are, right_is, row_zero s right.next number z)

    module _ (z : row.value ≡ 0 → ⊥) where
      pub cell_unended : (row.next ≡ length s → ⊥) → None ≡ cell_of (length s) (cell.parse s at)
      cell_unended h = rw (left_is, letters_are, right_is, row_read s right.next number z, ne_eqb row.next (length s) h)

      pub cell_read : row.next ≡ length s
          → Some (record {
            row = row.value - 1;
            col = col.value - 1;
            row_absolute = right.absolute;
            col_absolute = left.absolute;
          }) ≡ cell_of (length s) (cell.parse s at)
      cell_read h =
          rw (
            left_is,
            letters_are,
            right_is,
            row_read s right.next number z,
            told_column.number,
            eq-eqb row.next (length s) h,
          )
