-- A sheet's name in front of a cell is exact: where none is typed, before a text that begins with no quote and has no exclamation mark.
-- Assumes nothing.
use Prim.Native.Nat.{ℕ, suc, ◌+◌}
use mathlib.Core.Path.{◌≡◌, refl, sym, ap, ◌∙◌}
use mathlib.Core.Bool.{Bool, true, false, cond, not, ◌&&◌, and-eq-true_iff}
use mathlib.Core.List.{List, [], ◌∷◌, ◌++◌, append_assoc}
use native.Mathlib.Omega.{arith}
use lib.Dec.{eqb}
use lib.ListN.{length, drop, get_or, length-append}
use lib.Seq.{get_or-drop}
use borrow.Author.Tests.{eqb-true, ne_eqb, not-true}
use Rattle.model.specs.Readings.{every}
use Rattle.grammar.specs.Gram.{Before}
use Rattle.grammar.specs.Gram.Got.{got, bad}
use Rattle.grammar.specs.Parts.{bytes}
use Rattle.grammar.proofs.Places.{past, at_head, bad_got, Steps, steps}
use Rattle.a1text.specs.Bytes.{is_letter, is_word_byte, begins_with, taken}
use Rattle.a1text.specs.Names.{Name, is_name, is_bare, doubled, name_ok, name_text, unquoted_from, quoted_p, bare_p, name_p, sheet_name}
use Rattle.a1text.proofs.Classes.{letter_range, exclamation_no_word}
use Rattle.a1text.proofs.Quotes.{is_quote, unquoted_reads, unquoted_is}
use Rattle.a1text.proofs.Runs.{taken_all, run, at_place, begins_first, every_at}
use Rattle.a1text.proofs.Parts.{stands}

abbrev pub no_exclamation : ℕ → Bool
no_exclamation b = not (eqb b 33)

-- what may follow where no name is typed
pub record Nameless (t : List ℕ) : Type 0 where
  pub quote : begins_with is_quote t ≡ false
  pub mark : every no_exclamation t ≡ true

module _ (s : List ℕ) (at : ℕ) where
  first_byte : (t : List ℕ) → drop at s ≡ t → is_quote (get_or s at 0) ≡ begins_with is_quote t
  first_byte t e = ap is_quote (at_place s at ∙ ap (λ (l : List ℕ). get_or l 0 0) e) ∙ begins_first is_quote refl t

  -- ---- what is written is read back

  this_reads : (t : List ℕ) → Nameless t → drop at s ≡ t → name_p s at ≡ got Name.this at
  unfolding name_p bare_p
  this_reads t m e =
      let n = length (taken is_word_byte (drop at s)) in
      let byte : get_or s (at + n) 0 ≡ get_or t n 0 = sym (get_or-drop at s n 0) ∙ ap (λ (l : List ℕ). get_or l n 0) e in
      let no : eqb (get_or s (at + n) 0) 33 ≡ false =
      ap (λ (b : ℕ). eqb b 33) byte ∙ not-true _ (every_at no_exclamation refl t n m.mark) in
      rw (first_byte t e, m.quote, no)

  bare_begins : (bs t : List ℕ) → is_bare bs ≡ true → begins_with is_quote (bs ++ t) ≡ false
  unfolding is_bare begins_with
  bare_begins [] t o = let z : ◌≡◌ {A = ℕ} 0 1 = cc in absurd (omega arith)
  bare_begins (b ∷ bs) t o =
      let r = (letter_range b ((and-eq-true_iff _ _).0 o).0).0 in
      ne_eqb b 39 (λ x. omega arith)

  bare_reads : (bs t : List ℕ) → name_ok (Name.bare bs) ≡ true → drop at s ≡ name_text (Name.bare bs) ++ t
      → name_p s at ≡ got (Name.bare bs) (at + length (name_text (Name.bare bs)))
  unfolding name_p bare_p name_ok name_text bytes begins_with is_bare
  bare_reads bs t o e =
      let ok = (and-eq-true_iff (is_bare bs) (is_name bs)).0 o in
      let word = ((and-eq-true_iff (begins_with is_letter bs) (every is_word_byte bs)).0 ok.0).1 in
      let d : drop at s ≡ bs ++ (33 ∷ t) = e ∙ append_assoc bs (33 ∷ []) t in
      let w : taken is_word_byte (drop at s) ≡ bs = ap (taken is_word_byte) d ∙ taken_all is_word_byte bs (33 ∷ t) word exclamation_no_word in
      let b : get_or s (at + length bs) 0 ≡ 33 = at_head s t (at + length bs) 33 (past s bs (33 ∷ t) at d) in
      let k : at + length bs + 1 ≡ at + length (bs ++ (33 ∷ [])) = simp length-append (omega arith) in
      rw (first_byte _ d, bare_begins bs (33 ∷ t) ok.0, w, b, o, k)

  quoted_reads : (bs t : List ℕ) → is_name bs ≡ true → drop at s ≡ name_text (Name.quoted bs) ++ t
      → name_p s at ≡ got (Name.quoted bs) (at + length (name_text (Name.quoted bs)))
  unfolding name_p quoted_p name_text bytes begins_with
  quoted_reads bs t o e =
      let d : drop at s ≡ 39 ∷ (doubled bs ++ (39 ∷ 33 ∷ t)) =
      e ∙ ap (λ (l : List ℕ). 39 ∷ l) (append_assoc (doubled bs) (39 ∷ 33 ∷ []) t) in
      let inner : drop (at + 1) s ≡ doubled bs ++ (39 ∷ 33 ∷ t) = past s (39 ∷ []) _ at d in
      let q = at + 1 + length (doubled bs) + 1 in
      let k : q ≡ at + 1 + length (doubled bs ++ (39 ∷ [])) = simp length-append (omega arith) in
      let behind : drop q s ≡ 33 ∷ t =
      ap (λ (i : ℕ). drop i s) k
      ∙ past s (doubled bs ++ (39 ∷ [])) (33 ∷ t) (at + 1) (inner ∙ sym (append_assoc (doubled bs) (39 ∷ []) (33 ∷ t))) in
      let b : get_or s q 0 ≡ 33 = at_head s t q 33 behind in
      let end : q + 1 ≡ at + suc (length (doubled bs ++ (39 ∷ 33 ∷ []))) = simp length-append (omega arith) in
      rw (first_byte _ d, inner, unquoted_reads bs (33 ∷ t) (at + 1) refl, o, b, end)

  -- ---- what is read is what would be written

  pub record Typed (n : Name) (q : ℕ) : Type 0 where
    pub ok : name_ok n ≡ true
    pub next : q ≡ at + length (name_text n)
    pub split : drop at s ≡ name_text n ++ drop q s

  -- the bytes of a word that stand here
  abbrev word : List ℕ
  word = taken is_word_byte (drop at s)

  bare_got : (n : Name) (q : ℕ) → bare_p s at ≡ got n q → Typed n q
  unfolding bare_p name_ok name_text bytes
  bare_got n q e = go (eqb (get_or s (at + length word) 0) 33) (is_bare word && is_name word) refl refl e
    where
      go : (x y : Bool) → eqb (get_or s (at + length word) 0) 33 ≡ x → is_bare word && is_name word ≡ y
          → cond x (cond y (got (Name.bare word) (at + length word + 1)) (bad at)) (got Name.this at) ≡ got n q → Typed n q
      go true true h g e1 =
          let r = run is_word_byte (drop at s) in
          let p = past s word _ at r.split in
          let b = stands s (at + length word) 33 (omega arith) (eqb-true _ _ h) in
          let m : Name.bare word ≡ n = cc in
          let k : at + length word + 1 ≡ q = cc in
          rw (← m, ← k)
          (record {
            ok = g;
            next = simp length-append (omega arith);
            split = r.split ∙ (ap (λ (l : List ℕ). word ++ l) (sym p ∙ b) ∙ sym (append_assoc word (33 ∷ []) _));
          })
      go true false h g e1 = absurd (bad_got at n q e1)
      go false y h g e1 =
          let m : Name.this ≡ n = cc in
          let k : at ≡ q = cc in
          rw (← m, ← k) (record { ok = refl; next = omega arith; split = refl })

  quoted_got : get_or s at 0 ≡ 39 → (n : Name) (q : ℕ) → quoted_p s (at + 1) ≡ got n q → Typed n q
  unfolding quoted_p name_ok name_text bytes
  quoted_got first n q e =
      go (steps (unquoted_from (at + 1) (drop (at + 1) s))
      (λ bs k. cond (is_name bs && eqb (get_or s k 0) 33) (got (Name.quoted bs) (k + 1)) (bad (at + 1))) n q e)
    where
      go : Steps (unquoted_from (at + 1) (drop (at + 1) s))
          (λ bs k. cond (is_name bs && eqb (get_or s k 0) 33) (got (Name.quoted bs) (k + 1)) (bad (at + 1))) n q → Typed n q
      go m = last (is_name m.val && eqb (get_or s m.mid 0) 33) refl m.two
        where
          last : (x : Bool) → is_name m.val && eqb (get_or s m.mid 0) 33 ≡ x
              → cond x (got (Name.quoted m.val) (m.mid + 1)) (bad (at + 1)) ≡ got n q → Typed n q
          last true h g =
              let ok = (and-eq-true_iff (is_name m.val) _).0 h in
              let u = unquoted_is _ (at + 1) m.val m.mid m.one in
              let open1 = stands s at 39 (omega arith) first in
              let close = stands s m.mid 33 (omega arith) (eqb-true _ _ ok.1) in
              let i = u.next in
              let j : m.mid ≡ at + 1 + length (doubled m.val ++ (39 ∷ [])) = simp length-append (omega arith) in
              let after : drop m.mid s ≡ u.rest =
              ap (λ (k : ℕ). drop k s) j
              ∙ past s (doubled m.val ++ (39 ∷ [])) u.rest (at + 1)
              (u.split ∙ sym (append_assoc (doubled m.val) (39 ∷ []) u.rest)) in
              let rest : u.rest ≡ 33 ∷ drop (m.mid + 1) s = sym after ∙ close in
              let a : Name.quoted m.val ≡ n = cc in
              let k : m.mid + 1 ≡ q = cc in
              rw (← a, ← k)
              (record {
                ok = ok.0;
                next = simp length-append (omega arith);
                split = open1
                    ∙ ap (λ (l : List ℕ). 39 ∷ l)
                    (u.split
                    ∙ (ap (λ (l : List ℕ). doubled m.val ++ (39 ∷ l)) rest
                    ∙ sym (append_assoc (doubled m.val) (39 ∷ 33 ∷ []) _)));
              })
          last false h g = absurd (bad_got (at + 1) n q g)

  name_got : (n : Name) (q : ℕ) → name_p s at ≡ got n q → Typed n q
  unfolding name_p
  name_got n q e = go (eqb (get_or s at 0) 39) refl e
    where
      go : (x : Bool) → eqb (get_or s at 0) 39 ≡ x → cond x (quoted_p s (at + 1)) (bare_p s at) ≡ got n q → Typed n q
      go true h g = quoted_got (eqb-true _ _ h) n q g
      go false h g = bare_got n q g

name_reads : (s : List ℕ) (at : ℕ) (n : Name) (t : List ℕ) → name_ok n ≡ true → Nameless t → drop at s ≡ name_text n ++ t
    → name_p s at ≡ got n (at + length (name_text n))
unfolding name_ok name_text
name_reads s at Name.this t o m e = this_reads s at t m e ∙ ap (λ (k : ℕ). got Name.this k) (omega arith)
name_reads s at (Name.bare bs) t o m e = bare_reads s at bs t o e
name_reads s at (Name.quoted bs) t o m e = quoted_reads s at bs t o e

pub name_before : Before sheet_name Nameless
name_before = record {
  reads = name_reads;
  ok = λ s at n q e. (name_got s at n q e).ok;
  next = λ s at n q e. (name_got s at n q e).next;
  split = λ s at n q e. (name_got s at n q e).split;
}
