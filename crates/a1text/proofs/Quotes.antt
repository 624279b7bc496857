-- What is read between quotes is what was written there with each quote twice. Assumes nothing.
use Prim.Native.Nat.{ℕ, suc, ◌+◌}
use mathlib.Core.Path.{◌≡◌, refl, ap, ◌∙◌}
use mathlib.Core.Bool.{Bool, true, false, cond}
use mathlib.Core.List.{List, [], ◌∷◌, ◌++◌}
use native.Mathlib.Omega.{arith}
use lib.Dec.{eqb}
use lib.ListN.{length}
use borrow.Author.Tests.{eqb-true}
use Rattle.grammar.specs.Gram.Got.{got, bad}
use Rattle.grammar.specs.Parts.{then}
use Rattle.grammar.proofs.Places.{bad_got, from}
use Rattle.a1text.specs.Bytes.{begins_with}
use Rattle.a1text.specs.Names.{doubled, unquoted_from}

abbrev pub is_quote : ℕ → Bool
is_quote b = eqb b 39

-- ---- one byte

-- a byte that is no quote is one of the name
pub unquoted_byte : (pos b : ℕ) (rest : List ℕ) → is_quote b ≡ false
    → unquoted_from pos (b ∷ rest) ≡ then (unquoted_from (pos + 1) rest) (λ name q. got (b ∷ name) q)
unfolding unquoted_from
unquoted_byte pos b [] n = rw n
unquoted_byte pos b (c ∷ rest) n = rw n

-- two quotes are one of the name
pub unquoted_two : (pos b c : ℕ) (rest : List ℕ) → is_quote b ≡ true → is_quote c ≡ true
    → unquoted_from pos (b ∷ c ∷ rest) ≡ then (unquoted_from (pos + 2) rest) (λ name q. got (39 ∷ name) q)
unfolding unquoted_from
unquoted_two pos b c rest y z = rw (y, z)

-- a quote that no other follows ends the name
pub unquoted_end : (pos b : ℕ) (rest : List ℕ) → is_quote b ≡ true → begins_with is_quote rest ≡ false
    → unquoted_from pos (b ∷ rest) ≡ got [] (pos + 1)
unfolding unquoted_from begins_with
unquoted_end pos b [] y n = rw y
unquoted_end pos b (c ∷ rest) y n = rw (y, n)

-- ---- what is written is read back

pub unquoted_reads : (bs t : List ℕ) (pos : ℕ) → begins_with is_quote t ≡ false
    → unquoted_from pos (doubled bs ++ (39 ∷ t)) ≡ got bs (pos + length (doubled bs) + 1)
unfolding doubled
unquoted_reads [] t pos n = unquoted_end pos 39 t refl n ∙ ap (λ (k : ℕ). got [] k) (omega arith)
unquoted_reads (b ∷ bs) t pos n = go (is_quote b) refl (λ k. unquoted_reads bs t k n)
  where
    go : (x : Bool) → is_quote b ≡ x → ((k : ℕ) → unquoted_from k (doubled bs ++ (39 ∷ t)) ≡ got bs (k + length (doubled bs) + 1))
        → unquoted_from pos (doubled (b ∷ bs) ++ (39 ∷ t)) ≡ got (b ∷ bs) (pos + length (doubled (b ∷ bs)) + 1)
    go true e ih =
        let is : b ≡ 39 = eqb-true b 39 e in
        let k : pos + 2 + length (doubled bs) + 1 ≡ pos + suc (suc (length (doubled bs))) + 1 = omega arith in
        rw (e, unquoted_two pos 39 39 (doubled bs ++ (39 ∷ t)) refl refl, ih (pos + 2), k, is)
    go false e ih =
        let k : pos + 1 + length (doubled bs) + 1 ≡ pos + suc (length (doubled bs)) + 1 = omega arith in
        rw (e, unquoted_byte pos b (doubled bs ++ (39 ∷ t)) e, ih (pos + 1), k)

-- ---- what is read is what would be written

pub record Unquoted (s : List ℕ) (pos : ℕ) (bs : List ℕ) (q : ℕ) : Type 0 where
  pub rest : List ℕ
  pub split : s ≡ doubled bs ++ (39 ∷ rest)
  pub next : q ≡ pos + length (doubled bs) + 1

unquoted_none : (s : List ℕ) (pos b : ℕ) (bs rest : List ℕ) (q : ℕ) → is_quote b ≡ true → s ≡ b ∷ rest → got [] (pos + 1) ≡ got bs q
    → Unquoted s pos bs q
unfolding doubled
unquoted_none s pos b bs rest q y e g =
    let is : b ≡ 39 = eqb-true b 39 y in
    let a : [] ≡ bs = cc in
    let n : pos + 1 ≡ q = cc in
    rw (← a) (record { rest = rest; split = e ∙ ap (λ (k : ℕ). k ∷ rest) is; next = omega arith })

module _ (pos b : ℕ) (rest bs : List ℕ) (q : ℕ) where
  unquoted_more : is_quote b ≡ false
      → ((bs : List ℕ) → unquoted_from (pos + 1) rest ≡ got bs q → Unquoted rest (pos + 1) bs q)
      → then (unquoted_from (pos + 1) rest) (λ name k. got (b ∷ name) k) ≡ got bs q → Unquoted (b ∷ rest) pos bs q
  unfolding doubled
  unquoted_more n ih e =
      let f = from (unquoted_from (pos + 1) rest) (λ name. b ∷ name) bs q e in
      let u = ih f.val f.is in
      let i = u.next in
      rw (← f.made)
      (record { rest = u.rest; split = rw n (ap (λ (l : List ℕ). b ∷ l) u.split); next = rw n (omega arith) })

  unquoted_both : (c : ℕ) → is_quote b ≡ true → is_quote c ≡ true
      → ((bs : List ℕ) → unquoted_from (pos + 2) rest ≡ got bs q → Unquoted rest (pos + 2) bs q)
      → then (unquoted_from (pos + 2) rest) (λ name k. got (39 ∷ name) k) ≡ got bs q → Unquoted (b ∷ c ∷ rest) pos bs q
  unfolding doubled
  unquoted_both c y z ih e =
      let f = from (unquoted_from (pos + 2) rest) (λ name. 39 ∷ name) bs q e in
      let u = ih f.val f.is in
      let i = u.next in
      let one : b ≡ 39 = eqb-true b 39 y in
      let two : c ≡ 39 = eqb-true c 39 z in
      rw (← f.made)
      (record { rest = u.rest; split = rw (one, two) (ap (λ (l : List ℕ). 39 ∷ 39 ∷ l) u.split); next = omega arith })

pub unquoted_is : (s : List ℕ) (pos : ℕ) (bs : List ℕ) (q : ℕ) → unquoted_from pos s ≡ got bs q → Unquoted s pos bs q
unfolding unquoted_from
unquoted_is [] pos bs q e = absurd (bad_got pos bs q e)
unquoted_is (b ∷ []) pos bs q e = go (is_quote b) refl e
  where
    go : (x : Bool) → is_quote b ≡ x → cond x (got [] (pos + 1)) (bad (pos + 1)) ≡ got bs q → Unquoted (b ∷ []) pos bs q
    go true y g = unquoted_none (b ∷ []) pos b bs [] q y refl g
    go false y g = absurd (bad_got (pos + 1) bs q g)
unquoted_is (b ∷ (c ∷ rest)) pos bs q e =
    go (is_quote b) (is_quote c) refl refl e (λ l. unquoted_is (c ∷ rest) (pos + 1) l q) (λ l. unquoted_is rest (pos + 2) l q)
  where
    go : (x y : Bool) → is_quote b ≡ x → is_quote c ≡ y
        → cond x (cond y (then (unquoted_from (pos + 2) rest) (λ name k. got (39 ∷ name) k)) (got [] (pos + 1)))
        (then (unquoted_from (pos + 1) (c ∷ rest)) (λ name k. got (b ∷ name) k)) ≡ got bs q
        → ((l : List ℕ) → unquoted_from (pos + 1) (c ∷ rest) ≡ got l q → Unquoted (c ∷ rest) (pos + 1) l q)
        → ((l : List ℕ) → unquoted_from (pos + 2) rest ≡ got l q → Unquoted rest (pos + 2) l q)
        → Unquoted (b ∷ (c ∷ rest)) pos bs q
    go true true y z g one two = unquoted_both pos b rest bs q c y z two g
    go true false y z g one two = unquoted_none (b ∷ (c ∷ rest)) pos b bs (c ∷ rest) q y refl g
    go false z y w g one two = unquoted_more pos b (c ∷ rest) bs q y one g
