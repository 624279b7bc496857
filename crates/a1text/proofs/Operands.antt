-- What is read of a whole text, and of what was written. Assumes nothing.
use Prim.Native.Nat.{ℕ, ◌≤◌}
use mathlib.Core.Path.{◌≡◌, refl, sym, ap, ◌∙◌}
use mathlib.Core.Logic.{◌⊎◌, inl, inr}
use mathlib.Core.Bool.{Bool, true, false, cond}
use mathlib.Core.List.{List}
use mathlib.Core.Option.{none, some}
use native.Mathlib.Omega.{arith}
use lib.Dec.{eqb}
use lib.ListN.{length}
use borrow.Author.Tests.{eqb-true, eq-eqb, ne_eqb, lt-leb, le-leb}
use Rattle.model.specs.Split.{blank, trimmed, formula}
use Rattle.grammar.specs.Gram.{Got}
use Rattle.grammar.specs.Gram.Got.{got, bad}
use Rattle.grammar.proofs.Places.{from}
use Rattle.grammar.proofs.Before.{accepted, accepts}
use Rattle.jobtext.specs.Written.{Reference}
use Rattle.a1text.specs.Bytes.{is_letter, is_digit}
use Rattle.a1text.specs.Spelling.{spelling}
use Rattle.a1text.specs.A1.{means, spelled, has_text, a1, Spells, ending, reference_of, operand_read}
use Rattle.a1text.proofs.Classes.{either_true, letter_range, digit_range}
use Rattle.a1text.proofs.Parts.{is_mark}
use Rattle.a1text.proofs.Quotes.{is_quote}
use Rattle.a1text.proofs.Spellings.{is_mark_or_letter, is_start, begins_apart, spelling_before, text_starts, text_ends}
use Rattle.a1text.proofs.Meanings.{spelled_ok, means_spelled, meant_ok}
use Rattle.a1text.proofs.Trimmed.{formula_trimmed, formula_tight}

-- ---- whole texts

pub ending_is : {A : Type 0} (g : Got A) (n : ℕ) (a : A) → ending g n ≡ some a → g ≡ got a n
unfolding ending
ending_is (got b q) n a e = go (eqb q n) refl e
  where
    go : (x : Bool) → eqb q n ≡ x → cond x (some b) none ≡ some a → got b q ≡ got a n
    go true h f =
        let v : b ≡ a = cc in
        let k : q ≡ n = eqb-true q n h in
        rw (v, k)
    go false h f = let z : ◌≡◌ {A = ℕ} 0 1 = cc in absurd (omega arith)
ending_is (bad p) n a e = let z : ◌≡◌ {A = ℕ} 0 1 = cc in absurd (omega arith)

pub ending_got : {A : Type 0} (g : Got A) (n : ℕ) (a : A) → g ≡ got a n → ending g n ≡ some a
unfolding ending
ending_got g n a e = rw (e, eq-eqb n n refl)

pub read_spells : (s : List ℕ) (r : Reference) → reference_of s ≡ some r → Spells s r
unfolding reference_of
read_spells s r e =
    let f = from (spelling.parse s 0) means r (length s) (ending_is _ (length s) r e) in
    let a = accepted spelling_before s f.val f.is in
    record { by = f.val; ok = a.0; text = a.1; meant = f.made }

pub spells_read : (s : List ℕ) (r : Reference) → Spells s r → reference_of s ≡ some r
unfolding reference_of
spells_read s r t =
    let e = accepts spelling_before refl s t.by t.ok t.text in
    ending_got _ (length s) r (rw e (ap (λ (x : Reference). got x (length s)) t.meant))

-- what is read has a text
pub read_has_text : (s : List ℕ) (r : Reference) → reference_of s ≡ some r → has_text r ≡ true
read_has_text s r e = let t = read_spells s r e in rw (← t.meant) (meant_ok t.by t.ok)

-- ---- how a written text begins and ends

above_blank : (b : ℕ) → 33 ≤ b → blank b ≡ false
unfolding blank
above_blank b g = rw (le-leb 9 b (omega arith), lt-leb b 13 (omega arith), ne_eqb b 32 (λ x. omega arith))

mark_or_letter : (b : ℕ) → (is_mark b ≡ true) ⊎ (is_letter b ≡ true) → (33 ≤ b) × (b ≡ 61 → ⊥)
mark_or_letter b (inl x) = let y = eqb-true b 36 x in (omega arith, λ z. omega arith)
mark_or_letter b (inr x) = let y = (letter_range b x).0 in (omega arith, λ z. omega arith)

start_range : (b : ℕ) → is_start b ≡ true → (33 ≤ b) × (b ≡ 61 → ⊥)
start_range b e = go (either_true (is_quote b) (is_mark_or_letter b) e)
  where
    go : (is_quote b ≡ true) ⊎ (is_mark_or_letter b ≡ true) → (33 ≤ b) × (b ≡ 61 → ⊥)
    go (inl x) = let y = eqb-true b 39 x in (omega arith, λ z. omega arith)
    go (inr x) = mark_or_letter b (either_true (is_mark b) (is_letter b) x)

start_no_blank : (b : ℕ) → is_start b ≡ true → blank b ≡ false
start_no_blank b e = above_blank b (start_range b e).0

start_no_equals : (b : ℕ) → is_start b ≡ true → eqb b 61 ≡ false
start_no_equals b e = ne_eqb b 61 (start_range b e).1

digit_no_blank : (b : ℕ) → is_digit b ≡ true → blank b ≡ false
digit_no_blank b e = let y = (digit_range b e).0 in above_blank b (omega arith)

-- ---- what was written

module _ (r : Reference) (h : has_text r ≡ true) where
  pub text_read : reference_of (a1.text r) ≡ some r
  text_read =
      spells_read (a1.text r) r (record { by = spelled r; ok = spelled_ok r h; text = refl; meant = means_spelled r h })

  -- nothing of it is dropped
  pub text_formula : formula (a1.text r) ≡ a1.text r
  text_formula =
      let starts = text_starts (spelled r) (spelled_ok r h) in
      let ends = text_ends (spelled r) (spelled_ok r h) in
      formula_tight (a1.text r) (begins_apart is_start blank start_no_blank _ starts) (begins_apart is_digit blank digit_no_blank _ ends)
      (begins_apart is_start (λ b. eqb b 61) start_no_equals _ starts)

  pub written_read : operand_read (a1.text r) ≡ some r
  unfolding operand_read
  written_read = ap reference_of text_formula ∙ text_read

-- two references with one text are the same
pub one_reference : (r q : Reference) → has_text r ≡ true → has_text q ≡ true → a1.text r ≡ a1.text q → r ≡ q
one_reference r q h k e = let x = sym (text_read r h) ∙ (ap reference_of e ∙ text_read q k) in cc

-- ---- what the split hands on

pub read_trimmed : (bs : List ℕ) → operand_read (trimmed bs) ≡ operand_read bs
unfolding operand_read
read_trimmed bs = ap reference_of (formula_trimmed bs)
