-- The grammar of k hexadecimal digits is exact: k digits are read back, and what is read is what would be written. Assumes nothing.
use Prim.Native.Nat.{ℕ, zero, suc, ◌+◌, ◌-◌, ◌*◌, ◌/◌, ◌%◌, ◌≤◌, ◌<◌}
use mathlib.Core.Path.{◌≡◌, refl, sym, ap, ◌∙◌}
use mathlib.Core.Bool.{Bool, true, false, cond, ◌&&◌}
use mathlib.Core.List.{List, [], ◌∷◌, ◌++◌, append_assoc, append-nil}
use native.Mathlib.Omega.{arith}
use lib.Dec.{ltb, leb}
use lib.ListN.{length, drop, get_or, length-append}
use borrow.Author.Tests.{lt-ltb, le-ltb, le-leb, lt-leb, ltb-true, ltb-false, leb-true}
use Rattle.grammar.specs.Gram.{Exactly}
use Rattle.grammar.specs.Gram.Got.{got, bad}
use Rattle.grammar.specs.Numbers.{hex_digit, hex_digits, digit_value, is_hex, hex_p, sixteens, hex}
use Rattle.grammar.proofs.Places.{past, within, here, at_head, bad_got}

-- ---- one digit

pub value_digit : (d : ℕ) → d < 16 → digit_value (hex_digit d) ≡ d
unfolding digit_value hex_digit
value_digit d h = go (ltb d 10) refl
  where
    go : (b : Bool) → ltb d 10 ≡ b → digit_value (cond b (48 + d) (87 + d)) ≡ d
    go true e =
        let l : d < 10 = ltb-true d 10 e in
        let v : 48 + d - 48 ≡ d = omega arith in
        rw (le-ltb (48 + d) 48 (omega arith), le-leb (48 + d) 57 (omega arith), v)
    go false e =
        let l : 10 ≤ d = ltb-false d 10 e in
        let v : 87 + d - 87 ≡ d = omega arith in
        rw (
          le-ltb (87 + d) 48 (omega arith),
          lt-leb (87 + d) 57 (omega arith),
          le-ltb (87 + d) 97 (omega arith),
          le-leb (87 + d) 102 (omega arith),
          v,
        )

pub digit_value_lem : (b : ℕ) → digit_value b < 16 → hex_digit (digit_value b) ≡ b
unfolding digit_value hex_digit
digit_value_lem b h = go (ltb b 48) (leb b 57) (ltb b 97) (leb b 102) refl refl refl refl h
  where
    go : (w x y z : Bool) → ltb b 48 ≡ w → leb b 57 ≡ x → ltb b 97 ≡ y → leb b 102 ≡ z
        → cond w 16 (cond x (b - 48) (cond y 16 (cond z (b - 87) 16))) < 16
        → hex_digit (cond w 16 (cond x (b - 48) (cond y 16 (cond z (b - 87) 16)))) ≡ b
    go true x y z e1 e2 e3 e4 h = absurd (omega arith)
    go false true y z e1 e2 e3 e4 h =
        let l : 48 ≤ b = ltb-false b 48 e1 in
        let m : b ≤ 57 = leb-true b 57 e2 in
        rw (lt-ltb (b - 48) 10 (omega arith)) (omega arith)
    go false false true z e1 e2 e3 e4 h = absurd (omega arith)
    go false false false true e1 e2 e3 e4 h =
        let l : 97 ≤ b = ltb-false b 97 e3 in
        rw (le-ltb (b - 87) 10 (omega arith)) (omega arith)
    go false false false false e1 e2 e3 e4 h = absurd (omega arith)

pub digit_is_hex : (d : ℕ) → d < 16 → is_hex (hex_digit d) ≡ true
unfolding is_hex
digit_is_hex d h = rw (value_digit d h) (lt-ltb d 16 h)

pub is_hex_value : (b : ℕ) → is_hex b ≡ true → digit_value b < 16
unfolding is_hex
is_hex_value b h = ltb-true _ _ h

pub length_digits : (k n : ℕ) → length (hex_digits k n) ≡ k
unfolding hex_digits
length_digits zero n = refl
length_digits (suc k) n = let h = length_digits k (n / 16) in simp length-append (omega arith)

snoc_digit : (k a d : ℕ) → d < 16 → hex_digits (suc k) (a * 16 + d) ≡ hex_digits k a ++ (hex_digit d ∷ [])
unfolding hex_digits
snoc_digit k a d h =
    let q : (a * 16 + d) / 16 ≡ a = omega arith in
    let r : (a * 16 + d) % 16 ≡ d = omega arith in
    rw (q, r)

-- ---- what is written is read back

module _ (s : List ℕ) where
  digit_step : (m a d q : ℕ) (t : List ℕ) → d < 16 → drop q s ≡ hex_digit d ∷ t → hex_p (suc m) a s q ≡ hex_p m (a * 16 + d) s (q + 1)
  unfolding hex_p
  digit_step m a d q t h e =
      rw (lt-ltb _ _ (within s t q (hex_digit d) e), at_head s t q (hex_digit d) e, digit_is_hex d h, value_digit d h)

  digits_read : (k m n at : ℕ) (t : List ℕ) → n < sixteens k → drop at s ≡ hex_digits k n ++ t
      → hex_p (k + m) 0 s at ≡ hex_p m n s (at + k)
  unfolding hex_digits sixteens
  digits_read zero m n at t h e =
      let a : at + 0 ≡ at = omega arith in
      let b : 0 + m ≡ m = omega arith in
      let z : n ≡ 0 = omega arith in
      rw (a, b, z)
  digits_read (suc k) m n at t h e =
      let ds = hex_digits k (n / 16) in
      let e1 : drop at s ≡ ds ++ (hex_digit (n % 16) ∷ t) = e ∙ append_assoc ds (hex_digit (n % 16) ∷ []) t in
      let e2 : drop (at + k) s ≡ hex_digit (n % 16) ∷ t = rw (length_digits k (n / 16)) at (past s ds (hex_digit (n % 16) ∷ t) at e1) in
      let a : suc k + m ≡ k + suc m = omega arith in
      let b : at + suc k ≡ at + k + 1 = omega arith in
      let v : n / 16 * 16 + n % 16 ≡ n = omega arith in
      let r = digits_read k (suc m) (n / 16) at (hex_digit (n % 16) ∷ t) (omega arith) e1 in
      rw (a, b) (r ∙ (digit_step m (n / 16) (n % 16) (at + k) t (omega arith) e2 ∙ rw v))

-- ---- what is read is what would be written

-- m digits more after the k of acc are those of v
pub record Back (s : List ℕ) (k m acc at v q : ℕ) : Type 0 where
  pub ds : List ℕ
  pub split : drop at s ≡ ds ++ drop q s
  pub next : q ≡ at + m
  pub whole : hex_digits (k + m) v ≡ hex_digits k acc ++ ds
  pub small : v < sixteens (k + m)

module _ (s : List ℕ) (v q : ℕ) where
  back : (k m acc at : ℕ) → acc < sixteens k → hex_p m acc s at ≡ got v q → Back s k m acc at v q
  unfolding hex_p sixteens
  back k zero acc at h e =
      let a : acc ≡ v = cc in
      let b : at ≡ q = cc in
      let z : k + 0 ≡ k = omega arith in
      record { ds = []; split = rw b; next = omega arith; whole = rw (z, a) (sym (append-nil (hex_digits k v))); small = rw (z, ← a) h }
  back k (suc m) acc at h e =
      go (ltb at (length s)) (is_hex (get_or s at 0)) refl refl e (back (suc k) m (acc * 16 + digit_value (get_or s at 0)) (at + 1))
    where
      go : (x y : Bool) → ltb at (length s) ≡ x → is_hex (get_or s at 0) ≡ y
          → cond (x && y) (hex_p m (acc * 16 + digit_value (get_or s at 0)) s (at + 1)) (bad at) ≡ got v q
          → (acc * 16 + digit_value (get_or s at 0) < sixteens (suc k) → hex_p m (acc * 16 + digit_value (get_or s at 0)) s (at + 1) ≡ got v q
          → Back s (suc k) m (acc * 16 + digit_value (get_or s at 0)) (at + 1) v q)
          → Back s k (suc m) acc at v q
      go true true e1 e2 e ih =
          let d = digit_value (get_or s at 0) in
          let l : d < 16 = is_hex_value (get_or s at 0) e2 in
          let r = ih (omega arith) e in
          let nx = r.next in
          let z : k + suc m ≡ suc k + m = omega arith in
          let g : hex_digit d ≡ get_or s at 0 = digit_value_lem (get_or s at 0) l in
          record {
            ds = get_or s at 0 ∷ r.ds;
            split = here s at (ltb-true at (length s) e1) ∙ ap (λ (x : List ℕ). get_or s at 0 ∷ x) r.split;
            next = omega arith;
            whole = rw z
                (r.whole
                ∙ (ap (λ (x : List ℕ). x ++ r.ds) (snoc_digit k acc d l)
                ∙ (append_assoc (hex_digits k acc) (hex_digit d ∷ []) r.ds
                ∙ ap (λ (x : ℕ). hex_digits k acc ++ (x ∷ r.ds)) g)));
            small = rw z r.small;
          }
      go true false e1 e2 e ih = absurd (bad_got at v q e)
      go false y e1 e2 e ih = absurd (bad_got at v q e)

digits_all : (k v : ℕ) (ds : List ℕ) → hex_digits k v ≡ hex_digits 0 0 ++ ds → ds ≡ hex_digits k v
unfolding hex_digits
digits_all k v ds e = sym e

module _ (k : ℕ) (s : List ℕ) (at v q : ℕ) (e : hex_p k 0 s at ≡ got v q) where
  hex_back : Back s 0 k 0 at v q
  unfolding sixteens
  hex_back = back s v q 0 k 0 at (omega arith) e

  hex_small : v < sixteens k
  hex_small = let z : 0 + k ≡ k = omega arith in rw z at hex_back.small

  hex_split : drop at s ≡ hex_digits k v ++ drop q s
  hex_split =
      let z : 0 + k ≡ k = omega arith in
      hex_back.split ∙ ap (λ (x : List ℕ). x ++ drop q s) (digits_all k v hex_back.ds (rw z at hex_back.whole))

hex_reads : (k : ℕ) (s : List ℕ) (at v : ℕ) (t : List ℕ) → v < sixteens k → drop at s ≡ hex_digits k v ++ t
    → hex_p k 0 s at ≡ got v (at + length (hex_digits k v))
unfolding hex_p
hex_reads k s at v t o e =
    let z : k + 0 ≡ k = omega arith in
    rw (length_digits k v) (rw z at (digits_read s k 0 v at t o e))

pub hex_exact : (k : ℕ) → Exactly (hex k)
hex_exact k = record {
  reads = hex_reads k;
  ok = λ s at v q e. hex_small k s at v q e;
  next = λ s at v q e. rw (length_digits k v) (hex_back k s at v q e).next;
  split = λ s at v q e. hex_split k s at v q e;
}
