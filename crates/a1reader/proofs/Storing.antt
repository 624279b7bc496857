-- A name byte by byte, each quote of which stands twice: what is stored of it, and the bytes lent once it is stored. Assumes nothing.
use Prim.Native.Nat.{ℕ, suc, ◌+◌, ◌-◌, ◌*◌, ◌≤◌, ◌<◌}
use mathlib.Core.Path.{◌≡◌, refl, sym, ap, ◌∙◌}
use mathlib.Core.Bool.{Bool, true, false, cond}
use mathlib.Core.List.{List, [], ◌∷◌, ◌++◌}
use native.Mathlib.Omega.{arith}
use lib.Dec.{eqb}
use lib.ListN.{length, take, drop, get_or, set, length-set}
use lib.Seq.{sets, sets-eq, length-sets, take-append_seam}
use borrow.Author.Tests.{eqb-true, eq-eqb, ne_eqb}
use Rattle.model.specs.Readings.{every}
use Rattle.memory.specs.Memory.{page}
use Rattle.memory.proofs.Laws.{text_fits, text_over}
use Rattle.put.specs.Put.{kept_bytes}
use Rattle.put.proofs.Keeping.{none_kept}
use Rattle.grammar.proofs.Places.{past, at_head}
use Rattle.a1text.specs.Bytes.{is_word_byte}
use Rattle.a1text.specs.Names.{doubled}
use Rattle.a1text.proofs.Classes.{word_range, every_cons}
use Rattle.a1reader.specs.Parts.{name_from}

-- ---- a byte a turn

-- storing the bytes left, those of a name from q on, at i, gives what storing all of them gives
pub record Left (s : List ℕ) (first number : ℕ) (name₀ name : List ℕ) (i q : ℕ) : Type 0 where
  pub same : sets name i (name_from (number - i) s q) ≡ sets name₀ 0 (name_from number s first)
  pub long : length name ≡ length name₀
  pub most : i ≤ number
  pub near : q ≤ first + i * 2

pub left_begun : (s : List ℕ) (first number : ℕ) (name : List ℕ) → Left s first number name name 0 first
left_begun s first number name =
    let e : number - 0 ≡ number = omega arith in
    record { same = rw e; long = refl; most = omega arith; near = omega arith }

module _ {s : List ℕ} {first number : ℕ} {name₀ name : List ℕ} {i q : ℕ} (l : Left s first number name₀ name i q) where
  left_next : {b : ℕ} → i < number → b ≡ get_or s q 0
      → sets (set name i b) (i + 1) (name_from (number - (i + 1)) s (cond (eqb b 39) (q + 2) (q + 1)))
      ≡ sets name₀ 0 (name_from number s first)
  unfolding name_from
  left_next {b} h e =
      let n : number - i ≡ suc (number - suc i) = omega arith in
      let k : i + 1 ≡ suc i = omega arith in
      let one : name_from (number - i) s q ≡ b ∷ name_from (number - suc i) s (cond (eqb b 39) (q + 2) (q + 1)) = rw (n, e) in
      (rw k (sym (ap (sets name i) one))) ∙ l.same

  pub left_quote : {b : ℕ} → i < number → b ≡ get_or s q 0 → b ≡ 39 → Left s first number name₀ (set name i b) (i + 1) (q + 1 + 1)
  left_quote {b} h e y =
      let near = l.near in
      let k : q + 1 + 1 ≡ q + 2 = omega arith in
      let next = left_next h e in
      record {
        same = rw k (rw (eq-eqb b 39 y) at next);
        long = length-set name i b ∙ l.long;
        most = omega arith;
        near = omega arith;
      }

  pub left_byte : {b : ℕ} → i < number → b ≡ get_or s q 0 → (b ≡ 39 → ⊥) → Left s first number name₀ (set name i b) (i + 1) (q + 1)
  left_byte {b} h e y =
      let near = l.near in
      let next = left_next h e in
      record {
        same = rw (ne_eqb b 39 y) at next;
        long = length-set name i b ∙ l.long;
        most = omega arith;
        near = omega arith;
      }

  pub left_done : number ≤ i → name ≡ sets name₀ 0 (name_from number s first)
  unfolding name_from
  left_done h =
      let z : number - i ≡ 0 = omega arith in
      sym (ap (λ (k : ℕ). sets name i (name_from k s q)) z) ∙ l.same

-- ---- the bytes of a name

name_one : (k : ℕ) (s : List ℕ) (at next b : ℕ) (bs : List ℕ) → get_or s at 0 ≡ b → cond (eqb b 39) (at + 2) (at + 1) ≡ next
    → name_from k s next ≡ bs → name_from (suc k) s at ≡ b ∷ bs
unfolding name_from
name_one k s at next b bs e f g = rw (e, f, g)

pub name_is : (bs t s : List ℕ) (at : ℕ) → drop at s ≡ doubled bs ++ t → name_from (length bs) s at ≡ bs
unfolding name_from doubled
name_is [] t s at e = refl
name_is (b ∷ bs) t s at e = go (eqb b 39) refl (λ k. name_is bs t s k) e
  where
    go : (x : Bool) → eqb b 39 ≡ x → ((k : ℕ) → drop k s ≡ doubled bs ++ t → name_from (length bs) s k ≡ bs)
        → drop at s ≡ cond x (39 ∷ 39 ∷ doubled bs) (b ∷ doubled bs) ++ t → name_from (suc (length bs)) s at ≡ b ∷ bs
    go true y ih d =
        let is : b ≡ 39 = eqb-true b 39 y in
        let first : get_or s at 0 ≡ b = at_head s (39 ∷ (doubled bs ++ t)) at 39 d ∙ sym is in
        name_one (length bs) s at (at + 2) b bs first (rw y) (ih (at + 2) (past s (39 ∷ 39 ∷ []) (doubled bs ++ t) at d))
    go false y ih d =
        let first : get_or s at 0 ≡ b = at_head s (doubled bs ++ t) at b d in
        name_one (length bs) s at (at + 1) b bs first (rw y) (ih (at + 1) (past s (b ∷ []) (doubled bs ++ t) at d))

-- a word has no quote
pub word_plain : (bs : List ℕ) → every is_word_byte bs ≡ true → doubled bs ≡ bs
unfolding doubled
word_plain [] e = refl
word_plain (b ∷ bs) e =
    let h = every_cons is_word_byte b bs e in
    let low = (word_range b h.0).0 in
    rw (ne_eqb b 39 (λ x. omega arith), word_plain bs h.1)

-- ---- the bytes lent

pub stored_page : (l bs : List ℕ) → length bs ≤ length l → kept_bytes (sets l 0 bs) (length bs) ≡ page (length l) bs
stored_page l bs h =
    let z : 0 + length bs ≡ length bs = omega arith in
    let first : take (length bs) (sets l 0 bs) ≡ bs = rw (sets-eq bs l 0 (omega arith)) (take-append_seam bs (drop (0 + length bs) l)) in
    rw (first, length-sets l 0 bs) (sym (text_fits (length l) bs h).1)

pub cleared_page : (l bs : List ℕ) → length l < length bs → kept_bytes l 0 ≡ page (length l) bs
cleared_page l bs h = none_kept l ∙ sym (text_over (length l) bs h).1
