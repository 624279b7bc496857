-- A reference that has a text is what its spelling means, and what a spelling means has a text. Assumes nothing.
use Prim.Native.Nat.{ℕ, ◌+◌, ◌-◌, ◌≤◌}
use mathlib.Core.Path.{◌≡◌, refl}
use mathlib.Core.Bool.{Bool, true, false, cond, ◌&&◌, and-eq-true_iff}
use mathlib.Core.List.{List}
use mathlib.Core.Option.{Option, none, some}
use native.Mathlib.Omega.{arith}
use lib.Dec.{leb}
use borrow.Author.Tests.{leb-true, le-leb}
use Rattle.model.specs.Sheet.{max_row, max_col}
use Rattle.jobtext.specs.Written.{Reference}
use Rattle.a1text.specs.Names.{Name, is_name, is_bare, name_ok}
use Rattle.a1text.specs.Columns.{column_number, column_text}
use Rattle.a1text.specs.Spelling.{Spelling, spelling}
use Rattle.a1text.specs.A1.{name_meant, means, name_spelled, spelled, is_named, has_text}
use Rattle.a1text.proofs.Columns.{column_is, column_lettered, column_text_is}

-- what `has_text` tells
pub record HasText (r : Reference) : Type 0 where
  pub row : r.row ≤ max_row
  pub col : r.col ≤ max_col
  pub name : is_named r.name ≡ true

pub has_text_lem : (r : Reference) → has_text r ≡ true → HasText r
unfolding has_text
has_text_lem r e =
    let g = (and-eq-true_iff (leb r.row max_row && leb r.col max_col) (is_named r.name)).0 e in
    let h = (and-eq-true_iff (leb r.row max_row) (leb r.col max_col)).0 g.0 in
    record { row = leb-true _ _ h.0; col = leb-true _ _ h.1; name = g.1 }

pub has_text_is : (r : Reference) → HasText r → has_text r ≡ true
unfolding has_text
has_text_is r h = rw (le-leb _ _ h.row, le-leb _ _ h.col) h.name

-- ---- names

pub name_back : (n : Option (List ℕ)) → name_meant (name_spelled n) ≡ n
unfolding name_meant name_spelled
name_back none = refl
name_back (some bs) = go (is_bare bs)
  where
    go : (x : Bool) → name_meant (cond x (Name.bare bs) (Name.quoted bs)) ≡ some bs
    go true = refl
    go false = refl

pub name_spelled_ok : (n : Option (List ℕ)) → is_named n ≡ true → name_ok (name_spelled n) ≡ true
unfolding is_named name_spelled name_ok
name_spelled_ok none e = refl
name_spelled_ok (some bs) e = go (is_bare bs) refl
  where
    go : (x : Bool) → is_bare bs ≡ x → name_ok (cond x (Name.bare bs) (Name.quoted bs)) ≡ true
    go true b = rw b e
    go false b = e

pub name_meant_ok : (n : Name) → name_ok n ≡ true → is_named (name_meant n) ≡ true
unfolding is_named name_meant name_ok
name_meant_ok Name.this e = refl
name_meant_ok (Name.bare bs) e = ((and-eq-true_iff (is_bare bs) (is_name bs)).0 e).1
name_meant_ok (Name.quoted bs) e = e

-- ---- references

module _ (r : Reference) (h : has_text r ≡ true) where
  text_of : HasText r
  text_of = has_text_lem r h

  pub spelled_ok : spelling.Ok (spelled r)
  unfolding spelling spelled text_of
  spelled_ok =
      let row = text_of.row in
      let col = text_of.col in
      (name_spelled_ok r.name text_of.name, (tt, (column_text_is r.col (omega arith), (tt, (omega arith, omega arith)))))

  pub means_spelled : means (spelled r) ≡ r
  unfolding means spelled text_of
  means_spelled =
      let col = text_of.col in
      let number = (column_lettered r.col (omega arith)).number in
      let one : column_number (column_text r.col) - 1 ≡ r.col = omega arith in
      let two : r.row + 1 - 1 ≡ r.row = omega arith in
      rw (one, two, name_back r.name)

pub meant_ok : (p : Spelling) → spelling.Ok p → has_text (means p) ≡ true
unfolding spelling means
meant_ok p o =
    let c = column_is p.letters o.1.1.0 in
    let high = c.high in
    let row = o.1.1.1.1.1 in
    has_text_is _ (record { row = omega arith; col = omega arith; name = name_meant_ok p.name o.0 })
