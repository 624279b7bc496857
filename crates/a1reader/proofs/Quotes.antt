-- What stands between quotes, one byte of the name at a time. Assumes nothing.
use Prim.Native.Nat.{ℕ, suc, ◌+◌, ◌≤◌, ◌<◌}
use mathlib.Core.Path.{◌≡◌, refl, sym, ap, ◌∙◌}
use mathlib.Core.Bool.{Bool, true, false, cond, ◌&&◌, and-true, and_assoc}
use mathlib.Core.List.{List, ◌∷◌}
use native.Mathlib.Omega.{arith}
use lib.ListN.{length, drop, get_or, drop_of_length-le}
use borrow.Author.Tests.{ne_eqb}
use Rattle.model.specs.Readings.{every}
use Rattle.grammar.specs.Gram.{Got}
use Rattle.grammar.specs.Gram.Got.{got, bad}
use Rattle.grammar.specs.Parts.{then}
use Rattle.grammar.proofs.Places.{here, within}
use Rattle.a1text.specs.Bytes.{is_printable, begins_with}
use Rattle.a1text.specs.Names.{unquoted_from}
use Rattle.a1text.proofs.Runs.{at_place, begins_first}
use Rattle.a1text.proofs.Parts.{stands}
use Rattle.a1text.proofs.Quotes.{is_quote, unquoted_byte, unquoted_two, unquoted_end}
use Rattle.std.specs.Prelude.{Some, None}
use Rattle.std.specs.Bool.{then_some}
use Rattle.a1reader.specs.Parts.{between_of}

then_is : {A : Type 0} (b : Bool) (x : A) → then_some b x ≡ cond b (Some x) None
then_is true x = refl
then_is false x = refl

-- a byte other than 0 at a place is within the text
pub byte_within : (s : List ℕ) (at b : ℕ) → 1 ≤ b → get_or s at 0 ≡ b → at < length s
byte_within s at b low e = within s _ at b (stands s at b low e)

-- one byte of a name more
between_more : (n : ℕ) (ok : Bool) (b : ℕ) (g : Got (List ℕ))
    → between_of n ok (then g (λ name q. got (b ∷ name) q)) ≡ between_of (n + 1) (ok && is_printable b) g
unfolding every
between_more n ok b (got bs q) =
    let e : n + suc (length bs) ≡ n + 1 + length bs = omega arith in
    rw (e, and_assoc ok (is_printable b) (every is_printable bs))
between_more n ok b (bad p) = refl

-- the name from q on, behind n bytes of it that are printable if `ok` is true, is the name from `at` on
pub record Quoting (s : List ℕ) (at n : ℕ) (ok : Bool) (q : ℕ) : Type 0 where
  pub same : between_of n ok (unquoted_from q (drop q s)) ≡ between_of 0 true (unquoted_from at (drop at s))
  pub most : n ≤ q

module _ {s : List ℕ} {at n : ℕ} {ok : Bool} {q : ℕ} (c : Quoting s at n ok q) where
  pub quoting_byte : q < length s → (get_or s q 0 ≡ 39 → ⊥) → Quoting s at (n + 1) (ok && is_printable (get_or s q 0)) (q + 1)
  quoting_byte h e =
      let m = c.most in
      let one = ap (unquoted_from q) (here s q h) ∙ unquoted_byte q (get_or s q 0) (drop (q + 1) s) (ne_eqb _ _ e) in
      record {
        same = sym (ap (between_of n ok) one ∙ between_more n ok (get_or s q 0) (unquoted_from (q + 1) (drop (q + 1) s))) ∙ c.same;
        most = omega arith;
      }

  -- a quote, and a second one behind it
  pub quoting_two : get_or s q 0 ≡ 39 → get_or s (q + 1) 0 ≡ 39 → Quoting s at (n + 1) (ok && is_printable (get_or s q 0)) (q + 1 + 1)
  quoting_two e f =
      let m = c.most in
      let k : q + 1 + 1 ≡ q + 2 = omega arith in
      let d : drop q s ≡ 39 ∷ 39 ∷ drop (q + 2) s =
      stands s q 39 (omega arith) e
      ∙ ap (λ (l : List ℕ). 39 ∷ l) (stands s (q + 1) 39 (omega arith) f ∙ ap (λ (i : ℕ). 39 ∷ drop i s) k) in
      let two = ap (unquoted_from q) d ∙ unquoted_two q 39 39 (drop (q + 2) s) refl refl in
      record {
        same = rw (e, k) (sym (ap (between_of n ok) two ∙ between_more n ok 39 (unquoted_from (q + 2) (drop (q + 2) s))) ∙ c.same);
        most = omega arith;
      }

  -- a quote, and no second one
  pub quoting_end : get_or s q 0 ≡ 39 → (get_or s (q + 1) 0 ≡ 39 → ⊥)
      → then_some ok (record { length = n; next = q + 1 }) ≡ between_of 0 true (unquoted_from at (drop at s))
  unfolding every
  quoting_end e f =
      let z : n + 0 ≡ n = omega arith in
      let no : begins_with is_quote (drop (q + 1) s) ≡ false =
      sym (begins_first is_quote refl (drop (q + 1) s)) ∙ (ap is_quote (sym (at_place s (q + 1))) ∙ ne_eqb _ _ f) in
      let end = ap (unquoted_from q) (stands s q 39 (omega arith) e) ∙ unquoted_end q 39 (drop (q + 1) s) refl no in
      then_is ok _ ∙ (sym (ap (between_of n ok) end ∙ rw (and-true ok, z)) ∙ c.same)

  pub quoting_open : length s ≤ q → None ≡ between_of 0 true (unquoted_from at (drop at s))
  unfolding unquoted_from
  quoting_open h = sym (ap (λ (l : List ℕ). between_of n ok (unquoted_from q l)) (drop_of_length-le s h)) ∙ c.same
