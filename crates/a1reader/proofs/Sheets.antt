-- The name of a text, as it is read: whether there is one, its bytes, and where the cell begins. Assumes nothing.
use Prim.Native.Nat.{ℕ, ◌≤◌}
use mathlib.Core.Path.{◌≡◌, refl, ◌∙◌}
use mathlib.Core.Bool.{true, and-eq-true_iff}
use mathlib.Core.List.{List, [], ◌∷◌, ◌++◌, append_assoc}
use mathlib.Core.Option.{Option, none}
use native.Mathlib.Omega.{arith}
use lib.Dec.{leb}
use lib.ListN.{length, drop}
use borrow.Author.Tests.{leb-true}
use Rattle.model.specs.Readings.{every}
use Rattle.grammar.specs.Gram.{Got}
use Rattle.grammar.specs.Gram.Got.{got, bad}
use Rattle.grammar.specs.Parts.{bytes}
use Rattle.grammar.proofs.Places.{past}
use Rattle.jobtext.specs.Laid.{name_bytes, name_at}
use Rattle.a1text.specs.Bytes.{is_letter, is_word_byte, is_printable, begins_with}
use Rattle.a1text.specs.Names.{Name, is_name, is_bare, name_ok, name_text, doubled, name_p}
use Rattle.a1text.specs.Spelling.{spelling}
use Rattle.a1text.specs.A1.{name_meant, ending, reference_of}
use Rattle.a1text.proofs.Names.{name_before}
use Rattle.a1reader.specs.declared.NamePart.{NamePart}
use Rattle.std.specs.Prelude.{Option as Optional, Some, None}
use Rattle.a1reader.specs.Parts.{name_of, name_from, word_in, sheet_of}
use Rattle.a1reader.proofs.Storing.{name_is, word_plain}

-- what the reader says of the name o of a text
pub record Sheet (t : List ℕ) (sheet : NamePart) (o : Option (List ℕ)) : Type 0 where
  pub bytes : name_from (word_in sheet).length t (word_in sheet).first ≡ name_bytes o
  pub length : (word_in sheet).length ≡ length (name_bytes o)
  pub most : (word_in sheet).length ≤ 255
  pub first : (word_in sheet).first ≤ 1
  pub at : sheet_of sheet ≡ name_at 0 o

name_most : (bs : List ℕ) → is_name bs ≡ true → length bs ≤ 255
unfolding is_name
name_most bs e =
    leb-true (length bs) 255 ((and-eq-true_iff (leb 1 (length bs)) _).0 ((and-eq-true_iff _ (every is_printable bs)).0 e).0).1

-- the part that is read of a name
abbrev part_of : Name → ℕ → NamePart
part_of Name.this q = record { name = None; next = q }
part_of (Name.bare bs) q = record { name = Some (record { first = 0; length = length bs }); next = q }
part_of (Name.quoted bs) q = record { name = Some (record { first = 1; length = length bs }); next = q }

part_is : (n : Name) (q : ℕ) → name_of (got n q) ≡ Some (part_of n q)
part_is Name.this q = refl
part_is (Name.bare bs) q = refl
part_is (Name.quoted bs) q = refl

sheet_is : (t : List ℕ) (n : Name) (q : ℕ) → name_p t 0 ≡ got n q → Sheet t (part_of n q) (name_meant n)
unfolding name_meant name_bytes name_at name_from name_ok name_text is_bare bytes
sheet_is t Name.this q e = record { bytes = refl; length = refl; most = omega arith; first = omega arith; at = refl }
sheet_is t (Name.bare bs) q e =
    let ok = (and-eq-true_iff (is_bare bs) (is_name bs)).0 (name_before.ok t 0 (Name.bare bs) q e) in
    let plain = word_plain bs ((and-eq-true_iff (begins_with is_letter bs) (every is_word_byte bs)).0 ok.0).1 in
    let split : drop 0 t ≡ doubled bs ++ (33 ∷ drop q t) =
    name_before.split t 0 (Name.bare bs) q e ∙ (append_assoc bs (33 ∷ []) (drop q t) ∙ rw plain) in
    record {
      bytes = name_is bs (33 ∷ drop q t) t 0 split;
      length = refl;
      most = name_most bs ok.1;
      first = omega arith;
      at = refl;
    }
sheet_is t (Name.quoted bs) q e =
    let split : drop 0 t ≡ 39 ∷ ((doubled bs ++ (39 ∷ 33 ∷ [])) ++ drop q t) = name_before.split t 0 (Name.quoted bs) q e in
    let behind : drop 1 t ≡ doubled bs ++ (39 ∷ 33 ∷ drop q t) =
    past t (39 ∷ []) _ 0 split ∙ append_assoc (doubled bs) (39 ∷ 33 ∷ []) (drop q t) in
    record {
      bytes = name_is bs (39 ∷ 33 ∷ drop q t) t 1 behind;
      length = refl;
      most = name_most bs (name_before.ok t 0 (Name.quoted bs) q e);
      first = omega arith;
      at = refl;
    }

part_next : (n : Name) (q : ℕ) → (part_of n q).next ≡ q
part_next Name.this q = refl
part_next (Name.bare bs) q = refl
part_next (Name.quoted bs) q = refl

-- the name that was read
pub record Named (t : List ℕ) (sheet : NamePart) : Type 0 where
  pub name : Name
  pub is : name_p t 0 ≡ got name sheet.next
  pub part : Sheet t sheet (name_meant name)

module _ (t : List ℕ) where
  pub no_name_read : None ≡ name_of (name_p t 0) → reference_of t ≡ none
  unfolding reference_of ending spelling
  no_name_read told = go (name_p t 0) refl told
    where
      go : (g : Got Name) → name_p t 0 ≡ g → None ≡ name_of g → reference_of t ≡ none
      go (got m q) e f = let no : ◌≡◌ {A = Optional NamePart} None (Some (part_of m q)) = f ∙ part_is m q in cc
      go (bad p) e f = rw e

  pub name_read : {sheet : NamePart} → Some sheet ≡ name_of (name_p t 0) → Named t sheet
  name_read {sheet} told = go (name_p t 0) refl told
    where
      go : (g : Got Name) → name_p t 0 ≡ g → Some sheet ≡ name_of g → Named t sheet
      go (got m q) e f =
          let some_part : Some sheet ≡ Some (part_of m q) = f ∙ part_is m q in
          let same : sheet ≡ part_of m q = cc in
          rw same (record { name = m; is = rw (part_next m q) e; part = sheet_is t m q e })
      go (bad p) e f = cc
