-- The grammar's readers of hexadecimal digits and of pairs of them, one step in each case, as the loops over a text cite them.
-- Assumes nothing.
use Prim.Native.Nat.{ℕ, zero, suc, ◌+◌, ◌-◌, ◌*◌, ◌^◌, ◌≤◌, ◌<◌}
use mathlib.Core.Path.{◌≡◌, refl, ap, ◌∙◌}
use mathlib.Core.Bool.{Bool, true, false, cond}
use Rattle.std.specs.Prelude.{Some, None, Ok, Err}
use mathlib.Core.List.{List, [], ◌∷◌}
use native.Mathlib.Omega.{arith}
use lib.ListN.{length, drop, get_or, drop_of_length-le}
use lib.Dec.{ltb}
use Rattle.std.specs.Option.{unwrap_or}
use Rattle.std.proofs.lemmas.Bool.Decides.{nat_tests}
use borrow.Author.Tests.{lt-ltb, le-ltb, eq-eqb, ne_eqb, ltb-true, ltb-false}
use Rattle.grammar.specs.Gram.{Got}
use Rattle.grammar.specs.Gram.Got.{got, bad}
use Rattle.grammar.specs.Parts.{then}
use Rattle.grammar.specs.Numbers.{digit_value, is_hex, hex_p, sixteens, pairs_from}
use Rattle.grammar.proofs.Places.{here}
use Rattle.fields.specs.Field.{digit_of, counted}

-- what the value of a digit says
pub digit_got : (b : ℕ) {d : ℕ} → Some d ≡ digit_of b → (digit_value b ≡ d) × (d < 16)
unfolding is_hex
digit_got b {d} e = go (ltb (digit_value b) 16) refl e
  where
    go : (t : Bool) → ltb (digit_value b) 16 ≡ t → Some d ≡ cond t (Some (digit_value b)) None → (digit_value b ≡ d) × (d < 16)
    go true h x =
        let k : digit_value b ≡ d = cc in
        let l : digit_value b < 16 = ltb-true _ _ h in
        (k, omega arith)
    go false h x = cc

pub digit_or : (b : ℕ) → unwrap_or (digit_of b) 16 ≡ digit_value b
unfolding is_hex digit_value
digit_or b = grind (arith, nat_tests)

pub digit_none : (b : ℕ) → None ≡ digit_of b → 16 ≤ digit_value b
unfolding is_hex
digit_none b e = go (ltb (digit_value b) 16) refl e
  where
    go : (t : Bool) → ltb (digit_value b) 16 ≡ t → None ≡ cond t (Some (digit_value b)) None → 16 ≤ digit_value b
    go true h x = cc
    go false h x = ltb-false _ _ h

sixteens_up : (i k : ℕ) → sixteens i ≤ sixteens (k + i)
unfolding sixteens
sixteens_up i zero = let e : 0 + i ≡ i = omega arith in rw e (omega arith)
sixteens_up i (suc k) = let e : suc k + i ≡ suc (k + i) = omega arith in let h = sixteens_up i k in rw e (omega arith)

sixteens_15 : sixteens 15 ≡ 1_152_921_504_606_846_976
unfolding sixteens
sixteens_15 = refl

-- the digits read so far leave room for one more
pub hex_fits : (acc d k n : ℕ) → k < n → n ≤ 16 → acc < sixteens k → d < 16 → acc * 16 + d < 2 ^ 64
hex_fits acc d k n l m o h =
    let u = sixteens_up k (15 - k) in
    let e : 15 - k + k ≡ 15 = omega arith in
    let v : sixteens k ≤ sixteens 15 = rw e at u in
    let w = sixteens_15 in
    omega arith

pub hex_grown : (acc d k : ℕ) → acc < sixteens k → d < 16 → acc * 16 + d < sixteens (k + 1)
unfolding sixteens
hex_grown acc d k l h = let e : k + 1 ≡ suc k = omega arith in rw e (omega arith)

pub sixteens_none : 0 < sixteens 0
unfolding sixteens
sixteens_none = omega arith

pub hex_begun : (n : ℕ) (s : List ℕ) (at : ℕ) → hex_p (n - 0) 0 s at ≡ hex_p n 0 s at
hex_begun n s at = let e : n - 0 ≡ n = omega arith in rw e

-- with i of n digits read
module _ (acc : ℕ) (s : List ℕ) (at i n : ℕ) where
  pub hex_done : n ≤ i → hex_p (n - i) acc s at ≡ got acc at
  unfolding hex_p
  hex_done h = let e : n - i ≡ 0 = omega arith in rw e

  one_more : i < n → n - i ≡ suc (n - (i + 1))
  one_more h = omega arith

  pub hex_end : i < n → length s ≤ at → hex_p (n - i) acc s at ≡ bad at
  unfolding hex_p
  hex_end g h = rw (one_more g, le-ltb _ _ h)

  pub hex_other : i < n → at < length s → None ≡ digit_of (get_or s at 0) → hex_p (n - i) acc s at ≡ bad at
  unfolding hex_p is_hex
  hex_other g h o = rw (one_more g, lt-ltb _ _ h, le-ltb _ _ (digit_none _ o))

  pub hex_next : {d : ℕ} → i < n → at < length s → Some d ≡ digit_of (get_or s at 0)
      → hex_p (n - i) acc s at ≡ hex_p (n - (i + 1)) (acc * 16 + d) s (at + 1)
  unfolding hex_p is_hex
  hex_next {d} g h o =
      let k = digit_got (get_or s at 0) o in
      let l : digit_value (get_or s at 0) < 16 = rw k.0 k.1 in
      rw (one_more g, lt-ltb _ _ h, lt-ltb _ _ l, k.0)

-- ---- pairs of digits

-- n bytes counted already
module _ (end n : ℕ) (s : List ℕ) (q : ℕ) where
  pub pairs_none : length s ≤ q → counted n (pairs_from end q (drop q s)) ≡ Err (record { at = q })
  unfolding pairs_from
  pairs_none h = rw (drop_of_length-le s h)

  pub pairs_ended : q < length s → get_or s q 0 ≡ end → counted n (pairs_from end q (drop q s)) ≡ Ok (record { number = n; next = q + 1 })
  unfolding pairs_from
  pairs_ended h e = rw (here s q h) (go (drop (q + 1) s))
    where
      go : (cs : List ℕ) → counted n (pairs_from end q (get_or s q 0 ∷ cs)) ≡ Ok (record { number = n; next = q + 1 })
      go [] = let z : n + 0 ≡ n = omega arith in rw (eq-eqb _ _ e, z)
      go (d ∷ cs) = let z : n + 0 ≡ n = omega arith in rw (eq-eqb _ _ e, z)

  pub pairs_one : q < length s → (get_or s q 0 ≡ end → ⊥) → length s - q < 2
      → counted n (pairs_from end q (drop q s)) ≡ Err (record { at = q })
  unfolding pairs_from
  pairs_one h e l =
      let l1 : length s ≤ q + 1 = omega arith in
      let z : drop (q + 1) s ≡ [] = drop_of_length-le s l1 in
      rw (here s q h, z, ne_eqb _ _ e)

  two : 2 ≤ length s - q → drop q s ≡ get_or s q 0 ∷ (get_or s (q + 1) 0 ∷ drop (q + 2) s)
  two h =
      let e : q + 1 + 1 ≡ q + 2 = omega arith in
      here s q (omega arith) ∙ ap (λ (l : List ℕ). get_or s q 0 ∷ l) (rw e at (here s (q + 1) (omega arith)))

  pub pairs_first : 2 ≤ length s - q → (get_or s q 0 ≡ end → ⊥) → is_hex (get_or s q 0) ≡ false
      → counted n (pairs_from end q (drop q s)) ≡ Err (record { at = q })
  unfolding pairs_from
  pairs_first h e o = rw (two h, ne_eqb _ _ e, o)

  pub pairs_second : 2 ≤ length s - q → (get_or s q 0 ≡ end → ⊥) → is_hex (get_or s q 0) ≡ true → is_hex (get_or s (q + 1) 0) ≡ false
      → counted n (pairs_from end q (drop q s)) ≡ Err (record { at = q })
  unfolding pairs_from
  pairs_second h e l o = rw (two h, ne_eqb _ _ e, l, o)

  pub pairs_next : 2 ≤ length s - q → (get_or s q 0 ≡ end → ⊥) → is_hex (get_or s q 0) ≡ true → is_hex (get_or s (q + 1) 0) ≡ true
      → counted n (pairs_from end q (drop q s)) ≡ counted (n + 1) (pairs_from end (q + 2) (drop (q + 2) s))
  unfolding pairs_from
  pairs_next h e l o = rw (two h, ne_eqb _ _ e, l, o) (go (pairs_from end (q + 2) (drop (q + 2) s)))
    where
      go : (g : Got (List ℕ))
          → counted n (then g (λ bs p. got ((digit_value (get_or s q 0) * 16 + digit_value (get_or s (q + 1) 0)) ∷ bs) p)) ≡ counted (n + 1) g
      go (got bs p) = let e : n + suc (length bs) ≡ n + 1 + length bs = omega arith in rw e
      go (bad p) = refl

-- the steps of the loops over digits, for the search
pub ruleset steps = (digit_got, digit_none, hex_begun, hex_done, hex_end, hex_other, sixteens_none)

pub ruleset pair_steps = (pairs_none, pairs_ended, pairs_one, pairs_first, pairs_second, pairs_next)
