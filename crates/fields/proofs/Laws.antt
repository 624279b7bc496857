-- The grammar's readers of words and decimals, one step in each case, as the loops over a text cite them; and what an answer says of
-- its reading.
-- Assumes nothing.
use Prim.Native.Nat.{ℕ, ◌+◌, ◌-◌, ◌*◌, ◌≤◌, ◌<◌}
use mathlib.Core.Path.{◌≡◌, refl, ap, ◌∙◌}
use mathlib.Core.Bool.{Bool, true, false, cond}
use lib.Dec.{ltb}
use mathlib.Core.List.{List, [], ◌∷◌}
use Rattle.std.specs.Prelude.{Result, Ok, Err}
use native.Mathlib.Omega.{arith}
use Rattle.std.specs.Char.{is_ascii_digit}
use Rattle.std.specs.Result.{IsErrAnd}
use Rattle.std.proofs.lemmas.Bool.Decides.{nat_tests}
use Rattle.std.proofs.lemmas.Result.{err_from_is_err_and}
use lib.ListN.{length, drop, get_or, drop_of_length-le}
use borrow.Author.Tests.{lt-ltb, le-ltb, eq-eqb, ne_eqb}
use Rattle.grammar.specs.Gram.{Got}
use Rattle.grammar.specs.Gram.Got.{got, bad}
use Rattle.grammar.specs.Parts.{then, byte_p, word_p}
use Rattle.grammar.specs.Numbers.{decimal_from, decimal_at}
use Rattle.grammar.proofs.Places.{here}
use Rattle.fields.specs.declared.Malformed.{Malformed}
use Rattle.fields.specs.declared.Field.{Field}
use Rattle.fields.specs.declared.Choice.{Choice}
use Rattle.fields.specs.Field.{field_of, word_of, either_of}

-- ---- what an answer says

pub field_got : (g : Got ℕ) {f : Field} → Ok f ≡ field_of g → g ≡ got f.value f.next
field_got (got n q) {f} e = let h : f ≡ record { value = n; next = q } = cc in rw h
field_got (bad p) e = cc

pub field_bad : (g : Got ℕ) {e : Malformed} → Err e ≡ field_of g → g ≡ bad e.at
field_bad (got n q) h = cc
field_bad (bad p) {e} h = let k : e ≡ record { at = p } = cc in rw k

pub word_got : (g : Got (Unit {0})) {k : ℕ} → Ok k ≡ word_of g → g ≡ got tt k
word_got (got x q) {k} e = let h : k ≡ q = cc in rw h
word_got (bad p) e = cc

pub word_bad : (g : Got (Unit {0})) {e : Malformed} → Err e ≡ word_of g → g ≡ bad e.at
word_bad (got x q) h = cc
word_bad (bad p) {e} h = let k : e ≡ record { at = p } = cc in rw k

pub either_got : (g : Got Bool) {f : Choice} → Ok f ≡ either_of g → g ≡ got f.second f.next
either_got (got b q) {f} e = let h : f ≡ record { second = b; next = q } = cc in rw h
either_got (bad p) e = cc

pub either_bad : (g : Got Bool) {e : Malformed} → Err e ≡ either_of g → g ≡ bad e.at
either_bad (got b q) h = cc
either_bad (bad p) {e} h = let k : e ≡ record { at = p } = cc in rw k

-- what the exit of a `?` returns, where the error stays as it is
pub error_left : {T E : Type 0} {e : E} (r : Result T E) → IsErrAnd r (λ y. y ≡ e) → r ≡ Err e
error_left r h = let p = err_from_is_err_and r h in p.1 ∙ ap Err p.2

-- ---- words

module _ (w s : List ℕ) (i q : ℕ) where
  pub word_done : length w ≤ i → word_p (drop i w) s q ≡ got tt q
  unfolding word_p
  word_done h = rw (drop_of_length-le w h)

  pub word_failed : {e : Malformed} → i < length w → Err e ≡ word_of (byte_p (get_or w i 0) s q) → word_p (drop i w) s q ≡ bad e.at
  unfolding word_p
  word_failed h x = rw (here w i h, word_bad (byte_p (get_or w i 0) s q) x)

  pub word_passed : {k : ℕ} → i < length w → Ok k ≡ word_of (byte_p (get_or w i 0) s q) → word_p (drop i w) s q ≡ word_p (drop (i + 1) w) s k
  unfolding word_p
  word_passed h x = rw (here w i h, word_got (byte_p (get_or w i 0) s q) x)

-- one byte as a word
pub word_byte : (b : ℕ) (s : List ℕ) (at : ℕ) → word_p (b ∷ []) s at ≡ byte_p b s at
unfolding word_p
word_byte b s at = go (byte_p b s at)
  where
    go : (g : Got (Unit {0})) → then g (λ _ q. got tt q) ≡ g
    go (got x q) = refl
    go (bad p) = refl

-- ---- decimals

a_digit : (b : ℕ) → is_ascii_digit b ≡ true → (48 ≤ b) × (b ≤ 57)
a_digit b e = (grind (arith, nat_tests), grind (arith, nat_tests))

no_digit : {A : Type 0} (b : ℕ) → is_ascii_digit b ≡ false → (x y : A) → cond (ltb b 48) x (cond (ltb 57 b) x y) ≡ x
no_digit b e x y = grind (arith, nat_tests)

module _ (limit acc : ℕ) (s : List ℕ) (i : ℕ) where
  pub more_ended : length s ≤ i → decimal_from limit acc i (drop i s) ≡ got acc i
  unfolding decimal_from
  more_ended h = rw (drop_of_length-le s h)

  pub more_other : i < length s → is_ascii_digit (get_or s i 0) ≡ false → decimal_from limit acc i (drop i s) ≡ got acc i
  unfolding decimal_from
  more_other h l = rw (here s i h) (no_digit (get_or s i 0) l _ _)

  pub more_over : i < length s → is_ascii_digit (get_or s i 0) ≡ true → limit < acc * 10 + (get_or s i 0 - 48)
      → decimal_from limit acc i (drop i s) ≡ bad i
  unfolding decimal_from
  more_over h d o = let g = a_digit (get_or s i 0) d in rw (here s i h, le-ltb _ _ g.0, le-ltb _ _ g.1, lt-ltb _ _ o)

  pub more_next : i < length s → is_ascii_digit (get_or s i 0) ≡ true → acc * 10 + (get_or s i 0 - 48) ≤ limit
      → decimal_from limit acc i (drop i s) ≡ decimal_from limit (acc * 10 + (get_or s i 0 - 48)) (i + 1) (drop (i + 1) s)
  unfolding decimal_from
  more_next h d o = let g = a_digit (get_or s i 0) d in rw (here s i h, le-ltb _ _ g.0, le-ltb _ _ g.1, le-ltb _ _ o)

module _ (limit : ℕ) (s : List ℕ) (i : ℕ) where
  pub start_none : length s ≤ i → decimal_at limit i (drop i s) ≡ bad i
  unfolding decimal_at
  start_none h = rw (drop_of_length-le s h)

  pub start_zero : i < length s → get_or s i 0 ≡ 48 → decimal_at limit i (drop i s) ≡ got 0 (i + 1)
  unfolding decimal_at
  start_zero h e = rw (here s i h, eq-eqb _ _ e)

  pub start_other : i < length s → (get_or s i 0 ≡ 48 → ⊥) → is_ascii_digit (get_or s i 0) ≡ false → decimal_at limit i (drop i s) ≡ bad i
  unfolding decimal_at
  start_other h n l = rw (here s i h, ne_eqb _ _ n) (no_digit (get_or s i 0) l _ _)

  pub start_over : i < length s → (get_or s i 0 ≡ 48 → ⊥) → is_ascii_digit (get_or s i 0) ≡ true → limit < get_or s i 0 - 48 → decimal_at limit i (drop i s) ≡ bad i
  unfolding decimal_at
  start_over h n d o =
      let g = a_digit (get_or s i 0) d in
      rw (here s i h, ne_eqb _ _ n, le-ltb _ _ g.0, le-ltb _ _ g.1, lt-ltb _ _ o)

  pub start_next : i < length s → (get_or s i 0 ≡ 48 → ⊥) → is_ascii_digit (get_or s i 0) ≡ true → get_or s i 0 - 48 ≤ limit
      → decimal_at limit i (drop i s) ≡ decimal_from limit (get_or s i 0 - 48) (i + 1) (drop (i + 1) s)
  unfolding decimal_at
  start_next h n d o =
      let g = a_digit (get_or s i 0) d in
      rw (here s i h, ne_eqb _ _ n, le-ltb _ _ g.0, le-ltb _ _ g.1, le-ltb _ _ o)

-- what the answers say, for the search
pub ruleset reads = (field_got, field_bad, word_got, word_bad, either_got, either_bad, error_left, word_byte)

-- the steps of the loops over a text, for the search
pub ruleset steps = (word_done, word_failed, word_passed, start_none, start_zero, start_other, start_over, start_next)
