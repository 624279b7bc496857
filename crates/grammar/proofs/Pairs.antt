-- The grammar of bytes as pairs of hexadecimal digits, with the byte that ends them, is exact. Assumes nothing.
use Prim.Native.Nat.{ℕ, suc, ◌+◌, ◌-◌, ◌*◌, ◌/◌, ◌%◌}
use mathlib.Core.Path.{◌≡◌, refl, sym, ap, ◌∙◌}
use mathlib.Core.Bool.{Bool, true, false, cond, ◌&&◌}
use mathlib.Core.List.{List, [], ◌∷◌, ◌++◌}
use native.Mathlib.Omega.{arith}
use lib.Dec.{eqb}
use lib.ListN.{length, drop}
use borrow.Author.Tests.{eq-eqb, ne_eqb, eqb-true}
use Rattle.grammar.specs.Gram.{Exactly}
use Rattle.grammar.specs.Gram.Got.{got, bad}
use Rattle.grammar.specs.Parts.{then}
use Rattle.grammar.specs.Numbers.{hex_digit, digit_value, is_hex, pairs_text, are_bytes, pairs_from, pairs}
use Rattle.grammar.proofs.Places.{past, bad_got, From, from}
use Rattle.grammar.proofs.Hexadecimals.{value_digit, digit_value_lem, digit_is_hex, is_hex_value}

-- two digits a byte
pub length_pairs : (bs : List ℕ) → length (pairs_text bs) ≡ length bs * 2
unfolding pairs_text
length_pairs [] = refl
length_pairs (b ∷ bs) = let h = length_pairs bs in omega arith

-- a byte that ends pairs is no digit, so no digit is that byte
other : (end b : ℕ) → is_hex end ≡ false → is_hex b ≡ true → b ≡ end → ⊥
other end b h g e = let z : true ≡ false = sym g ∙ (ap is_hex e ∙ h) in let w : ◌≡◌ {A = ℕ} 0 1 = cc in omega arith

module _ (end : ℕ) where
  pub record PairsGot (pos : ℕ) (cs bs : List ℕ) (q : ℕ) : Type 0 where
    pub ok : are_bytes bs
    pub rest : List ℕ
    pub next : q ≡ pos + length (pairs_text bs ++ (end ∷ []))
    pub split : cs ≡ (pairs_text bs ++ (end ∷ [])) ++ rest

  pairs_none : (pos c : ℕ) (cs bs : List ℕ) (q : ℕ) → eqb c end ≡ true → got [] (pos + 1) ≡ got bs q → PairsGot pos (c ∷ cs) bs q
  unfolding pairs_text
  pairs_none pos c cs bs q f e =
      let a : [] ≡ bs = cc in
      let b : pos + 1 ≡ q = cc in
      let k : c ≡ end = eqb-true c end f in
      rw (← a, ← b, k) (record { ok = tt; rest = cs; next = refl; split = refl })

  pairs_more : (pos c d : ℕ) (cs bs : List ℕ) (q : ℕ) → is_hex c ≡ true → is_hex d ≡ true
      → From (pairs_from end (pos + 2) cs) (λ r. (digit_value c * 16 + digit_value d) ∷ r) bs q
      → ((bs : List ℕ) (q : ℕ) → pairs_from end (pos + 2) cs ≡ got bs q → PairsGot (pos + 2) cs bs q) → PairsGot pos (c ∷ (d ∷ cs)) bs q
  unfolding pairs_text
  pairs_more pos c d cs bs q h g m ih =
      let i = is_hex_value c h in
      let j = is_hex_value d g in
      let b : ℕ = digit_value c * 16 + digit_value d in
      let up : b / 16 ≡ digit_value c = omega arith in
      let down : b % 16 ≡ digit_value d = omega arith in
      let r = ih m.val q m.is in
      let n = r.next in
      rw (← m.made)
      (record {
        ok = (omega arith, r.ok);
        rest = r.rest;
        next = omega arith;
        split = rw (up, down, digit_value_lem c i, digit_value_lem d j) (ap (λ (l : List ℕ). c ∷ (d ∷ l)) r.split);
      })

  pub pairs_got : (pos : ℕ) (cs bs : List ℕ) (q : ℕ) → pairs_from end pos cs ≡ got bs q → PairsGot pos cs bs q
  unfolding pairs_from
  pairs_got pos [] bs q e = absurd (bad_got pos bs q e)
  pairs_got pos (c ∷ []) bs q e = go (eqb c end) refl e
    where
      go : (x : Bool) → eqb c end ≡ x → cond x (got [] (pos + 1)) (bad pos) ≡ got bs q → PairsGot pos (c ∷ []) bs q
      go true f e = pairs_none pos c [] bs q f e
      go false f e = absurd (bad_got pos bs q e)
  pairs_got pos (c ∷ (d ∷ cs)) bs q e = go (eqb c end) (is_hex c) (is_hex d) refl refl refl e (pairs_got (pos + 2) cs)
    where
      go : (x y z : Bool) → eqb c end ≡ x → is_hex c ≡ y → is_hex d ≡ z
          → cond x (got [] (pos + 1))
          (cond (y && z) (then (pairs_from end (pos + 2) cs) (λ r q. got ((digit_value c * 16 + digit_value d) ∷ r) q)) (bad pos)) ≡ got bs q
          → ((bs : List ℕ) (q : ℕ) → pairs_from end (pos + 2) cs ≡ got bs q → PairsGot (pos + 2) cs bs q)
          → PairsGot pos (c ∷ (d ∷ cs)) bs q
      go true y z e1 e2 e3 e ih = pairs_none pos c (d ∷ cs) bs q e1 e
      go false true true e1 e2 e3 e ih = pairs_more pos c d cs bs q e2 e3 (from (pairs_from end (pos + 2) cs) _ bs q e) ih
      go false true false e1 e2 e3 e ih = absurd (bad_got pos bs q e)
      go false false z e1 e2 e3 e ih = absurd (bad_got pos bs q e)

  pub pairs_split : (s : List ℕ) (at : ℕ) (bs : List ℕ) (q : ℕ) → pairs_from end at (drop at s) ≡ got bs q
      → drop at s ≡ (pairs_text bs ++ (end ∷ [])) ++ drop q s
  pairs_split s at bs q e =
      let r = pairs_got at (drop at s) bs q e in
      let rest : drop q s ≡ r.rest = ap (λ (k : ℕ). drop k s) r.next ∙ past s (pairs_text bs ++ (end ∷ [])) r.rest at r.split in
      r.split ∙ ap (λ (l : List ℕ). (pairs_text bs ++ (end ∷ [])) ++ l) (sym rest)

module _ (end : ℕ) (none : is_hex end ≡ false) where
  pairs_reads : (pos : ℕ) (bs t : List ℕ) → are_bytes bs
      → pairs_from end pos ((pairs_text bs ++ (end ∷ [])) ++ t) ≡ got bs (pos + length (pairs_text bs ++ (end ∷ [])))
  unfolding pairs_from pairs_text
  pairs_reads pos [] [] o = rw (eq-eqb end end refl)
  pairs_reads pos [] (c ∷ t) o = rw (eq-eqb end end refl)
  pairs_reads pos (b ∷ bs) t o =
      let hi = digit_is_hex (b / 16) (omega (arith, o.0)) in
      let lo = digit_is_hex (b % 16) (omega arith) in
      let v : digit_value (hex_digit (b / 16)) * 16 + digit_value (hex_digit (b % 16)) ≡ b =
      rw (value_digit (b / 16) (omega (arith, o.0)), value_digit (b % 16) (omega arith)) (omega arith) in
      let n : pos + 2 + length (pairs_text bs ++ (end ∷ [])) ≡ pos + suc (suc (length (pairs_text bs ++ (end ∷ [])))) = omega arith in
      rw (ne_eqb (hex_digit (b / 16)) end (other end (hex_digit (b / 16)) none hi), hi, lo, pairs_reads (pos + 2) bs t o.1, v, n)

  pub pairs_exact : Exactly (pairs end)
  pairs_exact = record {
    reads = λ s at bs t o e. rw e (pairs_reads at bs t o);
    ok = λ s at bs q e. (pairs_got end at (drop at s) bs q e).ok;
    next = λ s at bs q e. (pairs_got end at (drop at s) bs q e).next;
    split = pairs_split end;
  }
