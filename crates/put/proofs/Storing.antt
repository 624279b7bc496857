-- Laws of a piece that is stored byte by byte: from its first byte on, for hexadecimal digits from the last one back, and for bytes as
-- pairs of digits a pair a turn. Assumes nothing.
use Prim.Native.Nat.{ℕ, zero, suc, ◌+◌, ◌-◌, ◌*◌, ◌/◌, ◌%◌, ◌≤◌, ◌<◌}
use native.Mathlib.Nat.{not-suc-le-zero}
use native.Mathlib.Numerals.{add-one}
use native.Mathlib.Omega.{arith}
use mathlib.Core.Path.{◌≡◌, refl, sym, ap, ◌∙◌}
use mathlib.Core.List.{List, [], ◌∷◌}
use lib.ListN.{length, drop, get_or, set, length-set, drop_of_length-le}
use lib.Seq.{drop-cons, sets, set_comm}
use Rattle.memory.proofs.Laws.{sets_append}
use Rattle.grammar.specs.Numbers.{hex_digit, hex_digits, pairs_text}
use Rattle.grammar.proofs.Hexadecimals.{length_digits}

-- ---- from the first byte on

-- i bytes of ts are stored: with the others, e is d with all of ts in it
pub record Storing (d : List ℕ) (at : ℕ) (ts e : List ℕ) (i : ℕ) : Type 0 where
  pub bytes : sets e (at + i) (drop i ts) ≡ sets d at ts
  pub long : length e ≡ length d
  pub most : i ≤ length ts
  pub room : at + length ts ≤ length d

pub storing_begun : {d : List ℕ} {at : ℕ} {ts : List ℕ} → at + length ts ≤ length d → Storing d at ts d 0
storing_begun {d} {at} {ts} h =
    let e : at + 0 ≡ at = omega arith in
    record { bytes = rw e; long = refl; most = omega arith; room = h }

pub storing_more : {d : List ℕ} {at : ℕ} {ts e : List ℕ} {i : ℕ} → Storing d at ts e i → i < length ts
    → Storing d at ts (set e (at + i) (get_or ts i 0)) (i + 1)
storing_more {d} {at} {ts} {e} {i} s h =
    let n : at + suc i ≡ suc (at + i) = omega arith in
    let next : sets (set e (at + i) (get_or ts i 0)) (at + suc i) (drop (suc i) ts) ≡ sets e (at + i) (drop i ts) =
    rw (n, drop-cons ts i 0) in
    record {
      bytes = rw add-one (next ∙ s.bytes);
      long = length-set e (at + i) (get_or ts i 0) ∙ s.long;
      most = omega arith;
      room = s.room;
    }

pub storing_done : {d : List ℕ} {at : ℕ} {ts e : List ℕ} {i : ℕ} → Storing d at ts e i → length ts ≤ i → e ≡ sets d at ts
storing_done {d} {at} {ts} {e} {i} s h =
    sym (ap (λ (x : List ℕ). sets e (at + i) x) (drop_of_length-le _ h)) ∙ s.bytes

-- ---- from the last digit back

-- a store behind a piece goes ahead of it
set_behind : (xs d : List ℕ) (at i v : ℕ) → at + length xs ≤ i → set (sets d at xs) i v ≡ sets (set d i v) at xs
set_behind [] d at i v h = refl
set_behind (x ∷ xs) d at i v h =
    set_behind xs (set d at x) (suc at) i v (omega arith)
    ∙ ap (λ (l : List ℕ). sets l (suc at) xs) (set_comm d at i x v (λ e. omega arith))

-- the first `left` of the k digits of n are those of `rest`: with them, e is d with all digits in it
pub record Digits (d : List ℕ) (at k n : ℕ) (e : List ℕ) (left rest : ℕ) : Type 0 where
  pub bytes : sets e at (hex_digits left rest) ≡ sets d at (hex_digits k n)
  pub long : length e ≡ length d
  pub most : left ≤ k
  pub room : at + k ≤ length d

pub digits_begun : {d : List ℕ} {at k n : ℕ} → at + k ≤ length d → Digits d at k n d k n
digits_begun h = record { bytes = refl; long = refl; most = omega arith; room = h }

digit_last : (e : List ℕ) (at left rest g : ℕ) → 0 < left → g ≡ hex_digit (rest % 16)
    → sets (set e (at + (left - 1)) g) at (hex_digits (left - 1) (rest / 16)) ≡ sets e at (hex_digits left rest)
unfolding hex_digits
digit_last e at zero rest g h same = absurd (not-suc-le-zero h)
digit_last e at (suc k) rest g h same =
    let p : suc k - 1 ≡ k = omega arith in
    let front = hex_digits k (rest / 16) in
    let long : length front ≡ k = length_digits k (rest / 16) in
    rw (p, same)
    (sym (set_behind front e at (at + k) (hex_digit (rest % 16)) (omega arith))
    ∙ (ap (λ (n : ℕ). set (sets e at front) (at + n) (hex_digit (rest % 16))) (sym long)
    ∙ sym (sets_append e at front (hex_digit (rest % 16) ∷ []))))

pub digits_more : {d : List ℕ} {at k n : ℕ} {e : List ℕ} {left rest : ℕ} (g : ℕ) → Digits d at k n e left rest → 0 < left
    → g ≡ hex_digit (rest % 16) → Digits d at k n (set e (at + (left - 1)) g) (left - 1) (rest / 16)
digits_more {d} {at} {k} {n} {e} {left} {rest} g s h same =
    record {
      bytes = digit_last e at left rest g h same ∙ s.bytes;
      long = length-set e (at + (left - 1)) g ∙ s.long;
      most = omega arith;
      room = s.room;
    }

pub digits_done : {d : List ℕ} {at k n : ℕ} {e : List ℕ} {left rest : ℕ} → Digits d at k n e left rest → left ≡ 0
    → e ≡ sets d at (hex_digits k n)
unfolding hex_digits
digits_done {d} {at} {k} {n} {e} {left} {rest} s h =
    sym (ap (λ (i : ℕ). sets e at (hex_digits i rest)) h) ∙ s.bytes

-- ---- a pair a turn

-- the pairs of i bytes are stored, up to q: with the others, e is d with all pairs in it
pub record Pairs (d : List ℕ) (at : ℕ) (bs e : List ℕ) (q i : ℕ) : Type 0 where
  pub bytes : sets e q (pairs_text (drop i bs)) ≡ sets d at (pairs_text bs)
  pub long : length e ≡ length d
  pub place : q ≡ at + i * 2
  pub most : i ≤ length bs
  pub room : at + length bs * 2 ≤ length d

pub pairs_begun : {d : List ℕ} {at : ℕ} {bs : List ℕ} → at + length bs * 2 ≤ length d → Pairs d at bs d at 0
pairs_begun h = record { bytes = refl; long = refl; place = omega arith; most = omega arith; room = h }

pub pairs_more : {d : List ℕ} {at : ℕ} {bs e : List ℕ} {q i : ℕ} (g h : ℕ) → Pairs d at bs e q i → i < length bs
    → g ≡ hex_digit (get_or bs i 0 / 16) → h ≡ hex_digit (get_or bs i 0 % 16) → Pairs d at bs (set (set e q g) (q + 1) h) (q + 2) (i + 1)
unfolding pairs_text
pairs_more {d} {at} {bs} {e} {q} {i} g h s less high low =
    let pair : sets (set (set e q g) (suc q) h) (suc (suc q)) (pairs_text (drop (suc i) bs)) ≡ sets e q (pairs_text (drop i bs)) =
    rw (drop-cons bs i 0, high, low) in
    let two : q + 2 ≡ suc (suc q) = omega arith in
    record {
      bytes = rw (two, add-one q, add-one i) (pair ∙ s.bytes);
      long = length-set (set e q g) (q + 1) h ∙ (length-set e q g ∙ s.long);
      place = let p = s.place in omega arith;
      most = omega arith;
      room = s.room;
    }

pub pairs_done : {d : List ℕ} {at : ℕ} {bs e : List ℕ} {q i : ℕ} → Pairs d at bs e q i → length bs ≤ i → e ≡ sets d at (pairs_text bs)
unfolding pairs_text
pairs_done {d} {at} {bs} {e} {q} {i} s h =
    sym (ap (λ (x : List ℕ). sets e q (pairs_text x)) (drop_of_length-le _ h)) ∙ s.bytes
