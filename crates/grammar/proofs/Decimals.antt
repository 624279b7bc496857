-- The grammar of a decimal with the byte that ends it is exact: what is written is read back, and what is read is what would be written.
-- Assumes nothing.
use Prim.Native.Nat.{ℕ, zero, suc, ◌+◌, ◌-◌, ◌*◌, ◌/◌, ◌%◌, ◌^◌, ◌≤◌, ◌<◌}
use mathlib.Core.Path.{◌≡◌, refl, sym, ap, ◌∙◌}
use mathlib.Core.Bool.{Bool, true, false, cond}
use mathlib.Core.List.{List, [], ◌∷◌, ◌++◌, append_assoc, append-nil}
use native.Mathlib.Omega.{arith}
use lib.Dec.{ltb, eqb, T}
use lib.ListN.{length, drop, length-append}
use borrow.Author.Tests.{lt-ltb, le-ltb, ne_eqb, ltb-true, ltb-false, eqb-true, eqb-false}
use Rattle.grammar.specs.Gram.{Exactly}
use Rattle.grammar.specs.Gram.Got.{got, bad}
use Rattle.grammar.specs.Parts.{then, byte_p}
use Rattle.grammar.specs.Numbers.{digits, decimal_text, decimal_from, decimal_at, decimal_p, decimal}
use Rattle.grammar.proofs.Places.{past, bad_got, Steps, steps, from}
use Rattle.grammar.proofs.Parts.{byte_got, byte_reads}
use Rattle.grammar.proofs.Choices.{apart, Never, word_apart}

-- ---- digits

-- the numbers below it have at most k + 1 digits
abbrev pub top : ℕ → ℕ
top zero = 10
top (suc k) = top k * 10

digits_small : (k n : ℕ) → n < 10 → digits k n ≡ (48 + n) ∷ []
unfolding digits
digits_small zero n h = refl
digits_small (suc k) n h = rw (lt-ltb n 10 h)

digits_large : (k n : ℕ) → 10 ≤ n → digits (suc k) n ≡ digits k (n / 10) ++ ((48 + n % 10) ∷ [])
unfolding digits
digits_large k n h = rw (le-ltb n 10 h)

-- one more place does not change the digits of a number that has room
digits_room : (k n : ℕ) → n < top k → digits k n ≡ digits (suc k) n
digits_room zero n h = digits_small zero n h ∙ sym (digits_small 1 n h)
digits_room (suc k) n h = go (ltb n 10) refl (digits_room k (n / 10))
  where
    go : (b : Bool) → ltb n 10 ≡ b → (n / 10 < top k → digits k (n / 10) ≡ digits (suc k) (n / 10))
        → digits (suc k) n ≡ digits (suc (suc k)) n
    go true e ih = digits_small (suc k) n (ltb-true n 10 e) ∙ sym (digits_small (suc (suc k)) n (ltb-true n 10 e))
    go false e ih =
        digits_large k n (ltb-false n 10 e)
        ∙ ap (λ (l : List ℕ). l ++ ((48 + n % 10) ∷ [])) (ih (omega arith))
        ∙ sym (digits_large (suc k) n (ltb-false n 10 e))

pub decimal_small : (n : ℕ) → n < 10 → decimal_text n ≡ (48 + n) ∷ []
decimal_small n h = digits_small 19 n h

pub decimal_large : (n : ℕ) → 10 ≤ n → n < 2 ^ 64 → decimal_text n ≡ decimal_text (n / 10) ++ ((48 + n % 10) ∷ [])
decimal_large n h f = digits_large 18 n h ∙ rw (digits_room 18 (n / 10) (omega arith))

-- one more digit at the end
decimal_snoc : (a d : ℕ) → 1 ≤ a → d < 10 → a * 10 + d < 2 ^ 64 → decimal_text (a * 10 + d) ≡ decimal_text a ++ ((48 + d) ∷ [])
decimal_snoc a d g h o =
    let q : (a * 10 + d) / 10 ≡ a = omega arith in
    let r : (a * 10 + d) % 10 ≡ d = omega arith in
    digits_large 18 (a * 10 + d) (omega arith) ∙ rw (q, r, digits_room 18 a (omega arith))

-- a decimal begins with a digit
pub record Digit (l : List ℕ) : Type 0 where
  pub first : ℕ
  pub rest : List ℕ
  pub is : l ≡ first ∷ rest
  pub low : 48 ≤ first
  pub high : first ≤ 57

digits_begin : (k n : ℕ) → n < top k → Digit (digits k n)
digits_begin zero n h =
    record { first = 48 + n; rest = []; is = digits_small zero n h; low = omega arith; high = omega arith }
digits_begin (suc k) n h = go (ltb n 10) refl (digits_begin k (n / 10))
  where
    go : (b : Bool) → ltb n 10 ≡ b → (n / 10 < top k → Digit (digits k (n / 10))) → Digit (digits (suc k) n)
    go true e ih =
        let l : n < 10 = ltb-true n 10 e in
        record { first = 48 + n; rest = []; is = digits_small (suc k) n l; low = omega arith; high = omega arith }
    go false e ih =
        let d = ih (omega arith) in
        record {
          first = d.first;
          rest = d.rest ++ ((48 + n % 10) ∷ []);
          is = digits_large k n (ltb-false n 10 e) ∙ ap (λ (l : List ℕ). l ++ ((48 + n % 10) ∷ [])) d.is;
          low = d.low;
          high = d.high;
        }

pub decimal_begins : (n : ℕ) → n < 2 ^ 64 → Digit (decimal_text n)
decimal_begins n h = digits_begin 19 n (omega arith)

-- ---- what is written is read back

module _ (limit : ℕ) where
  one : (acc pos d : ℕ) (t : List ℕ) → d < 10 → acc * 10 + d ≤ limit
      → decimal_from limit acc pos ((48 + d) ∷ t) ≡ decimal_from limit (acc * 10 + d) (pos + 1) t
  unfolding decimal_from
  one acc pos d t h o =
      let e : 48 + d - 48 ≡ d = omega arith in
      rw (le-ltb (48 + d) 48 (omega arith), le-ltb 57 (48 + d) (omega arith), e, le-ltb limit (acc * 10 + d) o)

  first_digit : (pos n : ℕ) (t : List ℕ) → 1 ≤ n → n < 10 → n ≤ limit
      → decimal_at limit pos ((48 + n) ∷ t) ≡ decimal_from limit n (pos + 1) t
  unfolding decimal_at
  first_digit pos n t g h o =
      let e : 48 + n - 48 ≡ n = omega arith in
      rw (ne_eqb (48 + n) 48 (omega arith), le-ltb (48 + n) 48 (omega arith), le-ltb 57 (48 + n) (omega arith), e, le-ltb limit n o)

  small : (k pos n : ℕ) (t : List ℕ) → 1 ≤ n → n < 10 → n ≤ limit
      → decimal_at limit pos (digits k n ++ t) ≡ decimal_from limit n (pos + length (digits k n)) t
  small k pos n t g h o = rw (digits_small k n h) (first_digit pos n t g h o)

  digits_read : (k pos n : ℕ) (t : List ℕ) → 1 ≤ n → n < top k → n ≤ limit
      → decimal_at limit pos (digits k n ++ t) ≡ decimal_from limit n (pos + length (digits k n)) t
  digits_read zero pos n t g h o = small zero pos n t g h o
  digits_read (suc k) pos n t g h o = go (ltb n 10) refl (digits_read k pos (n / 10) ((48 + n % 10) ∷ t))
    where
      go : (b : Bool) → ltb n 10 ≡ b
          → (1 ≤ n / 10 → n / 10 < top k → n / 10 ≤ limit
          → decimal_at limit pos (digits k (n / 10) ++ ((48 + n % 10) ∷ t))
          ≡ decimal_from limit (n / 10) (pos + length (digits k (n / 10))) ((48 + n % 10) ∷ t))
          → decimal_at limit pos (digits (suc k) n ++ t) ≡ decimal_from limit n (pos + length (digits (suc k) n)) t
      go true e ih = small (suc k) pos n t g (ltb-true n 10 e) o
      go false e ih =
          let l : 10 ≤ n = ltb-false n 10 e in
          let v : n / 10 * 10 + n % 10 ≡ n = omega arith in
          let p : pos + (length (digits k (n / 10)) + 1) ≡ pos + length (digits k (n / 10)) + 1 = omega arith in
          rw (digits_large k n l, append_assoc, length-append, p)
          (ih (omega arith) (omega arith) (omega arith) ∙ rw (one (n / 10) _ (n % 10) t (omega arith) (omega arith), v))

  stops : (acc pos c : ℕ) (t : List ℕ) → c < 48 → decimal_from limit acc pos (c ∷ t) ≡ got acc pos
  unfolding decimal_from
  stops acc pos c t h = rw (lt-ltb c 48 h)

  -- a number that was written is read back, where no digit follows
  pub read_back : (pos n c : ℕ) (t : List ℕ) → n ≤ limit → limit < 2 ^ 64 → c < 48
      → decimal_at limit pos (decimal_text n ++ (c ∷ t)) ≡ got n (pos + length (decimal_text n))
  unfolding decimal_at digits
  read_back pos zero c t o l h = refl
  read_back pos (suc m) c t o l h = digits_read 19 pos (suc m) (c ∷ t) (omega arith) (omega arith) o ∙ stops _ _ c t h

  -- so is one that nothing follows
  pub read_whole : (pos n : ℕ) → n ≤ limit → limit < 2 ^ 64 → decimal_at limit pos (decimal_text n) ≡ got n (pos + length (decimal_text n))
  unfolding decimal_at decimal_from digits
  read_whole pos zero o l = refl
  read_whole pos (suc m) o l =
      ap (decimal_at limit pos) (sym (append-nil (decimal_text (suc m)))) ∙ digits_read 19 pos (suc m) [] (omega arith) (omega arith) o

-- ---- what is read is what would be written

-- the bytes cs, the first of which is at pos, begin with ds, and rest follows
pub record Read (limit n : ℕ) (ds cs : List ℕ) (pos q : ℕ) : Type 0 where
  pub fits : n ≤ limit
  pub rest : List ℕ
  pub split : cs ≡ ds ++ rest
  pub next : q ≡ pos + length ds

-- the digits of acc, read already, and those that follow are the digits of n
pub record More (limit n q acc pos : ℕ) (cs : List ℕ) : Type 0 where
  pub ds : List ℕ
  pub read : Read limit n ds cs pos q
  pub whole : decimal_text n ≡ decimal_text acc ++ ds

stopped : (limit n q acc pos : ℕ) (cs : List ℕ) → acc ≤ limit → got acc pos ≡ got n q → More limit n q acc pos cs
stopped limit n q acc pos cs o e =
    let a : acc ≡ n = cc in
    let p : pos ≡ q = cc in
    record {
      ds = [];
      read = record { fits = omega arith; rest = cs; split = refl; next = omega arith };
      whole = rw a (sym (append-nil (decimal_text n)));
    }

module _ (limit n q : ℕ) (bound : limit < 2 ^ 64) where
  more : (acc pos : ℕ) (cs : List ℕ) → 1 ≤ acc → acc ≤ limit → decimal_from limit acc pos cs ≡ got n q → More limit n q acc pos cs
  unfolding decimal_from
  more acc pos [] g o e = stopped limit n q acc pos [] o e
  more acc pos (c ∷ cs) g o e =
      go (ltb c 48) (ltb 57 c) (ltb limit (acc * 10 + (c - 48))) refl refl refl e (more (acc * 10 + (c - 48)) (pos + 1) cs)
    where
      go : (x y z : Bool) → ltb c 48 ≡ x → ltb 57 c ≡ y → ltb limit (acc * 10 + (c - 48)) ≡ z
          → cond x (got acc pos) (cond y (got acc pos) (cond z (bad pos) (decimal_from limit (acc * 10 + (c - 48)) (pos + 1) cs)))
          ≡ got n q
          → (1 ≤ acc * 10 + (c - 48) → acc * 10 + (c - 48) ≤ limit
          → decimal_from limit (acc * 10 + (c - 48)) (pos + 1) cs ≡ got n q → More limit n q (acc * 10 + (c - 48)) (pos + 1) cs)
          → More limit n q acc pos (c ∷ cs)
      go true y z e1 e2 e3 e ih = stopped limit n q acc pos (c ∷ cs) o e
      go false true z e1 e2 e3 e ih = stopped limit n q acc pos (c ∷ cs) o e
      go false false true e1 e2 e3 e ih = absurd (bad_got pos n q e)
      go false false false e1 e2 e3 e ih =
          let l : 48 ≤ c = ltb-false c 48 e1 in
          let h : c ≤ 57 = ltb-false 57 c e2 in
          let f : acc * 10 + (c - 48) ≤ limit = ltb-false limit (acc * 10 + (c - 48)) e3 in
          let m = ih (omega arith) f e in
          let v : 48 + (c - 48) ≡ c = omega arith in
          let d : decimal_text (acc * 10 + (c - 48)) ≡ decimal_text acc ++ (c ∷ []) =
          decimal_snoc acc (c - 48) g (omega arith) (omega arith) ∙ rw v in
          let nx = m.read.next in
          record {
            ds = c ∷ m.ds;
            read = record {
              fits = m.read.fits;
              rest = m.read.rest;
              split = ap (λ (l : List ℕ). c ∷ l) m.read.split;
              next = omega arith;
            };
            whole = m.whole ∙ rw (d, append_assoc);
          }

  pub read_is : (pos : ℕ) (cs : List ℕ) → decimal_at limit pos cs ≡ got n q → Read limit n (decimal_text n) cs pos q
  unfolding decimal_at
  read_is pos [] e = absurd (bad_got pos n q e)
  read_is pos (c ∷ cs) e = go (eqb c 48) (ltb c 48) (ltb 57 c) (ltb limit (c - 48)) refl refl refl refl e
    where
      go : (w x y z : Bool) → eqb c 48 ≡ w → ltb c 48 ≡ x → ltb 57 c ≡ y → ltb limit (c - 48) ≡ z
          → cond w (got 0 (pos + 1))
          (cond x (bad pos) (cond y (bad pos) (cond z (bad pos) (decimal_from limit (c - 48) (pos + 1) cs)))) ≡ got n q
          → Read limit n (decimal_text n) (c ∷ cs) pos q
      go true x y z e0 e1 e2 e3 e =
          let a : 0 ≡ n = cc in
          let p : pos + 1 ≡ q = cc in
          let k : c ≡ 48 = eqb-true c 48 e0 in
          rw (← a, k)
          (record {
            fits = omega arith;
            rest = cs;
            split = rw (digits_small 19 0 (omega arith));
            next = rw (digits_small 19 0 (omega arith)) (omega arith);
          })
      go false true y z e0 e1 e2 e3 e = absurd (bad_got pos n q e)
      go false false true z e0 e1 e2 e3 e = absurd (bad_got pos n q e)
      go false false false true e0 e1 e2 e3 e = absurd (bad_got pos n q e)
      go false false false false e0 e1 e2 e3 e =
          let k : c ≡ 48 → ⊥ = eqb-false c 48 e0 in
          let l : 48 ≤ c = ltb-false c 48 e1 in
          let h : c ≤ 57 = ltb-false 57 c e2 in
          let f : c - 48 ≤ limit = ltb-false limit (c - 48) e3 in
          let m = more (c - 48) (pos + 1) cs (omega arith) f e in
          let v : 48 + (c - 48) ≡ c = omega arith in
          let d : decimal_text (c - 48) ≡ c ∷ [] = digits_small 19 (c - 48) (omega arith) ∙ rw v in
          let nx = m.read.next in
          let w : decimal_text n ≡ c ∷ m.ds = m.whole ∙ rw d in
          rw w
          (record {
            fits = m.read.fits;
            rest = m.read.rest;
            split = ap (λ (l : List ℕ). c ∷ l) m.read.split;
            next = omega arith;
          })

-- ---- with the byte that ends it

module _ (limit end : ℕ) (bound : limit < 2 ^ 64) (low : end < 48) where
  pub record DecimalGot (s : List ℕ) (at n q : ℕ) : Type 0 where
    pub fits : n ≤ limit
    pub next : q ≡ at + length (decimal_text n ++ (end ∷ []))
    pub split : drop at s ≡ (decimal_text n ++ (end ∷ [])) ++ drop q s

  decimal_got : (s : List ℕ) (at n q : ℕ) → decimal_p limit end s at ≡ got n q → DecimalGot s at n q
  unfolding decimal_p
  decimal_got s at n q e = go (steps (decimal_at limit at (drop at s)) (λ m k. then (byte_p end s k) (λ _ e. got m e)) n q e)
    where
      go : Steps (decimal_at limit at (drop at s)) (λ m k. then (byte_p end s k) (λ _ e. got m e)) n q → DecimalGot s at n q
      go m =
          let f = from (byte_p end s m.mid) (λ _. m.val) n q m.two in
          let r = read_is limit n m.mid bound at (drop at s) (m.one ∙ ap (λ (x : ℕ). got x m.mid) f.made) in
          let b = byte_got end s m.mid f.val q f.is in
          let rest : r.rest ≡ end ∷ drop q s =
          sym (ap (λ (k : ℕ). drop k s) r.next ∙ past s (decimal_text n) r.rest at r.split) ∙ b.is in
          let i = r.next in
          let j = b.next in
          record {
            fits = r.fits;
            next = simp length-append (omega arith);
            split = rw append_assoc (r.split ∙ ap (λ (l : List ℕ). decimal_text n ++ l) rest);
          }

  decimal_reads : (s : List ℕ) (at n : ℕ) (t : List ℕ) → n ≤ limit → drop at s ≡ (decimal_text n ++ (end ∷ [])) ++ t
      → decimal_p limit end s at ≡ got n (at + length (decimal_text n ++ (end ∷ [])))
  unfolding decimal_p
  decimal_reads s at n t o e =
      let e1 : drop at s ≡ decimal_text n ++ (end ∷ t) = e ∙ append_assoc (decimal_text n) (end ∷ []) t in
      let e2 : drop (at + length (decimal_text n)) s ≡ end ∷ t = past s (decimal_text n) (end ∷ t) at e1 in
      let k : at + length (decimal_text n) + 1 ≡ at + length (decimal_text n ++ (end ∷ [])) = simp length-append (omega arith) in
      rw (e1, read_back limit at n end t o bound low, byte_reads end s t (at + length (decimal_text n)) e2, k)

  pub decimal_exact : Exactly (decimal limit end)
  decimal_exact = record {
    reads = decimal_reads;
    ok = λ s at n q e. (decimal_got s at n q e).fits;
    next = λ s at n q e. (decimal_got s at n q e).next;
    split = λ s at n q e. (decimal_got s at n q e).split;
  }

  -- a decimal never begins with a word whose first byte is no digit
  pub never_decimal : (b : ℕ) (w : List ℕ) → b < 48 → Never (b ∷ w) (decimal limit end)
  unfolding apart
  never_decimal b w h = record {
    never = λ s at n t o e.
        let d = decimal_begins n (omega arith) in
        let l = d.low in
        let x : T (apart (b ∷ w) (d.first ∷ d.rest)) = rw (ne_eqb d.first b (omega arith)) tt in
        word_apart (b ∷ w) (d.first ∷ d.rest) s at ((end ∷ []) ++ t) x
        (e ∙ (append_assoc (decimal_text n) (end ∷ []) t ∙ ap (λ (l : List ℕ). l ++ ((end ∷ []) ++ t)) d.is));
  }
