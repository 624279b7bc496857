-- The marks and letters of a cell as the reader answers them, one byte at a time. Assumes nothing.
use Prim.Native.Nat.{ℕ, suc, ◌+◌, ◌-◌, ◌*◌, ◌≤◌, ◌<◌}
use mathlib.Core.Path.{◌≡◌, sym, ap, ◌∙◌}
use mathlib.Core.Bool.{true, false}
use mathlib.Core.List.{List, [], ◌∷◌}
use native.Mathlib.Omega.{arith}
use lib.ListN.{length, drop, get_or, get_or-eq_default}
use native.Mathlib.Decide.{dec_le}
use borrow.Author.Tests.{le-leb, lt-leb, eq-eqb, ne_eqb}
use Rattle.a1text.specs.Bytes.{is_letter, raised, taken}
use Rattle.a1text.specs.Columns.{columns, column_from, mark_p}
use Rattle.a1text.proofs.Columns.{column_more}
use Rattle.std.specs.Prelude.{Some, None}
use Rattle.a1reader.specs.Parts.{mark_of, column_of}
use Rattle.a1reader.proofs.Runs.{run_ended, run_stops, run_next}

-- ---- `$` or not

module _ (s : List ℕ) (at : ℕ) where
  pub mark_there : get_or s at 0 ≡ 36 → record { absolute = true; next = at + 1 } ≡ mark_of (mark_p s at)
  unfolding mark_p
  mark_there e = rw (eq-eqb _ _ e)

  pub mark_none : (get_or s at 0 ≡ 36 → ⊥) → record { absolute = false; next = at } ≡ mark_of (mark_p s at)
  unfolding mark_p
  mark_none n = rw (ne_eqb _ _ n)

  pub mark_past : length s ≤ at → record { absolute = false; next = at } ≡ mark_of (mark_p s at)
  mark_past h = mark_none (λ e. omega (arith, get_or-eq_default s 0 h))

-- ---- letters

module _ (n q : ℕ) where
  pub column_zero : n ≡ 0 → None ≡ column_of n q []
  unfolding column_from
  column_zero e = rw e

  pub column_some : (n ≡ 0 → ⊥) → n ≤ columns → Some (record { value = n; next = q }) ≡ column_of n q []
  unfolding column_from
  column_some z h =
      let e : q + 0 ≡ q = omega arith in
      rw (le-leb 1 n (omega (arith, z)), le-leb n columns h, e)

  column_cons : (b : ℕ) (cs : List ℕ) → column_of n q (b ∷ cs) ≡ column_of (n * 26 + (raised b - 64)) (q + 1) cs
  unfolding column_from
  column_cons b cs = let e : q + suc (length cs) ≡ q + 1 + length cs = omega arith in rw e

  -- letters that follow make no number less
  column_over : (cs : List ℕ) → columns < n → None ≡ column_of n q cs
  column_over cs h =
      let m = column_more n cs in
      rw (le-leb 1 (column_from n cs) (omega arith), lt-leb (column_from n cs) columns (omega arith))

-- the column from q on, behind letters that have the number n, is the column from `at` on
pub record Counted (s : List ℕ) (at n q : ℕ) : Type 0 where
  pub same : column_of n q (taken is_letter (drop q s)) ≡ column_of 0 at (taken is_letter (drop at s))
  pub high : n ≤ columns
  -- past the end nothing is passed
  pub past : length s < at → n ≡ 0

module _ {s : List ℕ} {at n q : ℕ} (c : Counted s at n q) where
  counted_ended : length s ≤ q → column_of n q [] ≡ column_of 0 at (taken is_letter (drop at s))
  counted_ended h = sym (ap (column_of n q) (run_ended is_letter s q h)) ∙ c.same

  -- the end of the loop, at the end of the text or past it
  pub counted_last : at ≤ q → length s ≤ q → (at ≤ length s → q ≤ length s)
      → column_of n (length s) [] ≡ column_of 0 at (taken is_letter (drop at s))
  counted_last low h within =
      elim (dec_le at (length s)) [
        | yes y ↦ let end : length s ≡ q = omega (arith, within y) in rw end (counted_ended h)
        | no x ↦
            let none = c.past (omega arith) in
            sym (column_zero n (length s) none) ∙ (column_zero n q none ∙ counted_ended h)
      ]

  pub counted_stops : q < length s → is_letter (get_or s q 0) ≡ false → column_of n q [] ≡ column_of 0 at (taken is_letter (drop at s))
  counted_stops h e = sym (ap (column_of n q) (run_stops is_letter s q h e)) ∙ c.same

  counted_next : q < length s → is_letter (get_or s q 0) ≡ true
      → column_of (n * 26 + (raised (get_or s q 0) - 64)) (q + 1) (taken is_letter (drop (q + 1) s))
      ≡ column_of 0 at (taken is_letter (drop at s))
  counted_next h e = sym (ap (column_of n q) (run_next is_letter s q h e) ∙ column_cons n q (get_or s q 0) _) ∙ c.same

  module _ {v : ℕ} (is : v ≡ raised (get_or s q 0) - 64) (h : q < length s) (e : is_letter (get_or s q 0) ≡ true) where
    pub counted_more : at ≤ q → n * 26 + v ≤ columns → Counted s at (n * 26 + v) (q + 1)
    counted_more low k = record { same = rw is (counted_next h e); high = k; past = λ p. absurd (omega arith) }

    pub counted_over : columns < n * 26 + v → None ≡ column_of 0 at (taken is_letter (drop at s))
    counted_over k = column_over _ (q + 1) (taken is_letter (drop (q + 1) s)) (omega arith) ∙ counted_next h e
