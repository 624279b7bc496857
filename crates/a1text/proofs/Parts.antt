-- The parts of a cell, each exact before what may follow it: `$` or not, letters, digits. Assumes nothing.
use Prim.Native.Nat.{ℕ, zero, suc, ◌+◌, ◌/◌, ◌%◌, ◌^◌, ◌≤◌, ◌<◌}
use mathlib.Core.Path.{◌≡◌, refl, sym, ap, ◌∙◌}
use mathlib.Core.Bool.{Bool, true, false, cond}
use mathlib.Core.List.{List, [], ◌∷◌, ◌++◌, append-nil}
use native.Mathlib.Omega.{arith}
use lib.Dec.{leb, ltb, eqb}
use lib.ListN.{length, drop, get_or}
use borrow.Author.Tests.{leb-true, le-leb, eqb-true, ltb-true, ltb-false}
use Rattle.model.specs.Readings.{every}
use Rattle.grammar.specs.Gram.{Before}
use Rattle.grammar.specs.Gram.Got.{got, bad}
use Rattle.grammar.specs.Parts.{bytes, kept}
use Rattle.grammar.specs.Numbers.{decimal_text, decimal_at}
use Rattle.grammar.proofs.Places.{past, bad_got, Steps, steps}
use Rattle.grammar.proofs.Decimals.{top, decimal_small, decimal_large, read_whole, read_is}
use Rattle.a1text.specs.Bytes.{is_letter, is_digit, begins_with, taken}
use Rattle.a1text.specs.Columns.{is_column, letters_p, letters, rows, row_p, row, mark_p, mark_text, mark}
use Rattle.a1text.proofs.Classes.{every_append, every_two, every_none}
use Rattle.a1text.proofs.Columns.{column_is}
use Rattle.a1text.proofs.Runs.{taken_all, run, at_place, begins_first}

-- a byte other than 0 that stands at a place is within the text
pub stands : (s : List ℕ) (at b : ℕ) → 1 ≤ b → get_or s at 0 ≡ b → drop at s ≡ b ∷ drop (at + 1) s
stands s at b low e = go (drop at s) refl
  where
    go : (l : List ℕ) → drop at s ≡ l → drop at s ≡ b ∷ drop (at + 1) s
    go [] d =
        let z : get_or s at 0 ≡ 0 = at_place s at ∙ ap (λ (l : List ℕ). get_or l 0 0) d in
        absurd (omega arith)
    go (c ∷ l) d =
        let f : get_or s at 0 ≡ c = at_place s at ∙ ap (λ (l : List ℕ). get_or l 0 0) d in
        let t : drop (at + 1) s ≡ l = past s (c ∷ []) l at d in
        let same : c ≡ b = sym f ∙ e in
        d ∙ (ap (λ (k : ℕ). k ∷ l) same ∙ ap (λ (k : List ℕ). b ∷ k) (sym t))

-- ---- `$` or not

abbrev pub is_mark : ℕ → Bool
is_mark b = eqb b 36

module _ (s : List ℕ) (at : ℕ) where
  mark_at : (t : List ℕ) → drop at s ≡ t → eqb (get_or s at 0) 36 ≡ begins_with is_mark t
  mark_at t e = ap is_mark (at_place s at ∙ ap (λ (l : List ℕ). get_or l 0 0) e) ∙ begins_first is_mark refl t

  mark_reads : (a : Bool) (t : List ℕ) → begins_with is_mark t ≡ false → drop at s ≡ mark_text a ++ t
      → mark_p s at ≡ got a (at + length (mark_text a))
  unfolding mark_p mark_text bytes begins_with
  mark_reads true t n e = rw (mark_at (36 ∷ t) e)
  mark_reads false t n e = let z : at + 0 ≡ at = omega arith in rw (mark_at t e, n, z)

  pub record Marked (a : Bool) (q : ℕ) : Type 0 where
    pub next : q ≡ at + length (mark_text a)
    pub split : drop at s ≡ mark_text a ++ drop q s

  mark_got : (a : Bool) (q : ℕ) → mark_p s at ≡ got a q → Marked a q
  unfolding mark_p mark_text bytes
  mark_got a q e = go (eqb (get_or s at 0) 36) refl e
    where
      go : (x : Bool) → eqb (get_or s at 0) 36 ≡ x → cond x (got true (at + 1)) (got false at) ≡ got a q → Marked a q
      go true h g =
          let b : true ≡ a = cc in
          let n : at + 1 ≡ q = cc in
          rw (← b, ← n) (record { next = refl; split = stands s at 36 (omega arith) (eqb-true _ _ h) })
      go false h g =
          let b : false ≡ a = cc in
          let n : at ≡ q = cc in
          rw (← b, ← n) (record { next = omega arith; split = refl })

pub mark_before : Before mark (λ t. begins_with is_mark t ≡ false)
mark_before = record {
  reads = λ s at a t o m e. mark_reads s at a t m e;
  ok = λ s at a q e. tt;
  next = λ s at a q e. (mark_got s at a q e).next;
  split = λ s at a q e. (mark_got s at a q e).split;
}

-- ---- letters

module _ (s : List ℕ) (at : ℕ) where
  pub record Lettered (cs : List ℕ) (q : ℕ) : Type 0 where
    pub ok : is_column cs ≡ true
    pub next : q ≡ at + length cs
    pub split : drop at s ≡ cs ++ drop q s

  letters_got : (cs : List ℕ) (q : ℕ) → letters_p s at ≡ got cs q → Lettered cs q
  unfolding letters_p
  letters_got cs q e = go (is_column (taken is_letter (drop at s))) refl e
    where
      all : List ℕ
      all = taken is_letter (drop at s)

      go : (x : Bool) → is_column (taken is_letter (drop at s)) ≡ x
          → cond x (got (taken is_letter (drop at s)) (at + length (taken is_letter (drop at s)))) (bad at) ≡ got cs q → Lettered cs q
      go true h g =
          let r = run is_letter (drop at s) in
          let p = past s (taken is_letter (drop at s)) _ at r.split in
          let c : taken is_letter (drop at s) ≡ cs = cc in
          let n : at + length (taken is_letter (drop at s)) ≡ q = cc in
          rw (← c, ← n)
          (record { ok = h; next = refl; split = r.split ∙ ap (λ (l : List ℕ). taken is_letter (drop at s) ++ l) (sym p) })
      go false h g = absurd (bad_got at cs q g)

  letters_reads : (cs t : List ℕ) → is_column cs ≡ true → begins_with is_letter t ≡ false → drop at s ≡ cs ++ t
      → letters_p s at ≡ got cs (at + length cs)
  unfolding letters_p
  letters_reads cs t o m e = rw (e, taken_all is_letter cs t (column_is cs o).letter m, o)

pub letters_before : Before letters (λ t. begins_with is_letter t ≡ false)
letters_before = record {
  reads = λ s at cs t o m e. letters_reads s at cs t o m e;
  ok = λ s at cs q e. (letters_got s at cs q e).ok;
  next = λ s at cs q e. (letters_got s at cs q e).next;
  split = λ s at cs q e. (letters_got s at cs q e).split;
}

-- ---- digits

module _ (s : List ℕ) (at : ℕ) where
  pub record Rowed (n q : ℕ) : Type 0 where
    pub low : 1 ≤ n
    pub high : n ≤ rows
    pub next : q ≡ at + length (decimal_text n)
    pub split : drop at s ≡ decimal_text n ++ drop q s

  row_got : (n q : ℕ) → row_p s at ≡ got n q → Rowed n q
  unfolding row_p
  row_got n q e = first (steps (decimal_at rows at (drop at s)) (λ m k. kept (leb 1 m) m at k) n q e)
    where
      first : Steps (decimal_at rows at (drop at s)) (λ m k. kept (leb 1 m) m at k) n q → Rowed n q
      first m = go (leb 1 m.val) refl m.two
        where
          go : (x : Bool) → leb 1 m.val ≡ x → kept x m.val at m.mid ≡ got n q → Rowed n q
          go true h g =
              let v : m.val ≡ n = cc in
              let k : m.mid ≡ q = cc in
              let is : decimal_at rows at (drop at s) ≡ got n q =
              m.one ∙ (ap (λ (i : ℕ). got i m.mid) v ∙ ap (λ (i : ℕ). got n i) k) in
              let r = read_is rows n q (omega arith) at (drop at s) is in
              let rest : drop q s ≡ r.rest = ap (λ (i : ℕ). drop i s) r.next ∙ past s (decimal_text n) r.rest at r.split in
              record {
                low = omega (arith, leb-true 1 m.val h);
                high = r.fits;
                next = r.next;
                split = r.split ∙ ap (λ (l : List ℕ). decimal_text n ++ l) (sym rest);
              }
          go false h g = absurd (bad_got at n q g)

  row_reads : (n : ℕ) (t : List ℕ) → 1 ≤ n → n ≤ rows → t ≡ [] → drop at s ≡ decimal_text n ++ t
      → row_p s at ≡ got n (at + length (decimal_text n))
  unfolding row_p
  row_reads n t low high none e =
      let whole : drop at s ≡ decimal_text n = e ∙ (ap (λ (l : List ℕ). decimal_text n ++ l) none ∙ append-nil (decimal_text n)) in
      rw (whole, read_whole rows at n high (omega arith), le-leb 1 n low)

pub row_before : Before row (λ t. t ≡ [])
row_before = record {
  reads = λ s at n t o m e. row_reads s at n t o.0 o.1 m e;
  ok = λ s at n q e. let r = row_got s at n q e in (r.low, r.high);
  next = λ s at n q e. (row_got s at n q e).next;
  split = λ s at n q e. (row_got s at n q e).split;
}

-- ---- the digits of a row

-- digits, and the last of them
pub record Digits (l : List ℕ) : Type 0 where
  pub every : every is_digit l ≡ true
  pub ahead : List ℕ
  pub last : ℕ
  pub is : l ≡ ahead ++ (last ∷ [])
  pub low : 48 ≤ last
  pub high : last ≤ 57

digit_is : (b : ℕ) → 48 ≤ b → b ≤ 57 → is_digit b ≡ true
unfolding is_digit
digit_is b g h = rw (le-leb 48 b g, le-leb b 57 h)

module _ (n : ℕ) (bound : n < 2 ^ 64) where
  digits_few : n < 10 → Digits (decimal_text n)
  digits_few h =
      rw (decimal_small n h)
      (record {
        every = every_two is_digit _ [] (digit_is (48 + n) (omega arith) (omega arith)) (every_none is_digit);
        ahead = [];
        last = 48 + n;
        is = refl;
        low = omega arith;
        high = omega arith;
      })

  digits_more : 10 ≤ n → Digits (decimal_text (n / 10)) → Digits (decimal_text n)
  digits_more h d =
      rw (decimal_large n h bound)
      (record {
        every = every_append is_digit _ _ d.every
            (every_two is_digit _ [] (digit_is (48 + n % 10) (omega arith) (omega arith)) (every_none is_digit));
        ahead = decimal_text (n / 10);
        last = 48 + n % 10;
        is = refl;
        low = omega arith;
        high = omega arith;
      })

pub digits_of : (k n : ℕ) → n < top k → n < 2 ^ 64 → Digits (decimal_text n)
digits_of zero n h b = digits_few n b h
digits_of (suc k) n h b = go (ltb n 10) refl (digits_of k (n / 10))
  where
    go : (x : Bool) → ltb n 10 ≡ x → (n / 10 < top k → n / 10 < 2 ^ 64 → Digits (decimal_text (n / 10))) → Digits (decimal_text n)
    go true e ih = digits_few n b (ltb-true n 10 e)
    go false e ih = digits_more n b (ltb-false n 10 e) (ih (omega arith) (omega arith))

pub row_digits : (n : ℕ) → n ≤ rows → Digits (decimal_text n)
row_digits n h = digits_of 6 n (omega arith) (omega arith)
