-- How many LFs the texts of numbers and of bytes have, and that a reading of one which fails stops in the line that it began in.
-- Assumes nothing.
use Prim.Native.Nat.{ℕ, zero, suc, ◌+◌, ◌-◌, ◌*◌, ◌/◌, ◌%◌, ◌^◌, ◌≤◌, ◌<◌}
use mathlib.Core.Path.{◌≡◌, refl, sym, ap, ◌∙◌}
use mathlib.Core.Bool.{Bool, true, false, cond, ◌&&◌}
use mathlib.Core.List.{List, [], ◌∷◌, ◌++◌}
use native.Mathlib.Omega.{arith}
use lib.Dec.{ltb, eqb}
use lib.ListN.{length, drop, get_or}
use borrow.Author.Tests.{ltb-true, ltb-false}
use Rattle.grammar.specs.Gram.{Got, line_feeds}
use Rattle.grammar.specs.Gram.Got.{got, bad}
use Rattle.grammar.specs.Parts.{then, byte_p}
use Rattle.grammar.specs.Numbers.{
  digits,
  decimal_text,
  decimal_from,
  decimal_at,
  decimal_p,
  decimal,
  hex_digit,
  hex_digits,
  digit_value,
  is_hex,
  hex_p,
  hex,
  pairs_text,
  pairs_from,
  pairs,
}
use Rattle.grammar.proofs.Places.{past, here, bad_got}
use Rattle.grammar.proofs.Decimals.{read_is}
use Rattle.grammar.proofs.Feeds.{Across, across_then, Feeds, feeds_behind, no_feed, failed, made, stay, byte_stops, byte_across}

-- ---- decimals

pub digits_feeds : (k n : ℕ) → line_feeds (digits k n) ≡ 0
unfolding digits
digits_feeds zero n = no_feed (48 + n) (λ e. omega arith)
digits_feeds (suc k) n = go (ltb n 10) (digits_feeds k (n / 10))
  where
    go : (b : Bool) → line_feeds (digits k (n / 10)) ≡ 0
        → line_feeds (cond b ((48 + n) ∷ []) (digits k (n / 10) ++ ((48 + n % 10) ∷ []))) ≡ 0
    go true h = no_feed (48 + n) (λ e. omega arith)
    go false h = feeds_behind (digits k (n / 10)) ((48 + n % 10) ∷ []) h (no_feed (48 + n % 10) (λ e. omega arith))

module _ (limit : ℕ) (s : List ℕ) (p : ℕ) where
  from_stops : (acc pos : ℕ) (cs : List ℕ) → drop pos s ≡ cs → decimal_from limit acc pos cs ≡ bad p → Across s pos p 0
  unfolding decimal_from
  from_stops acc pos [] d e = absurd (bad_got p acc pos (sym e))
  from_stops acc pos (c ∷ cs) d e =
      go (ltb c 48) (ltb 57 c) (ltb limit (acc * 10 + (c - 48))) refl e (from_stops (acc * 10 + (c - 48)) (pos + 1) cs)
    where
      go : (x y z : Bool) → ltb c 48 ≡ x
          → cond x (got acc pos) (cond y (got acc pos) (cond z (bad pos) (decimal_from limit (acc * 10 + (c - 48)) (pos + 1) cs))) ≡ bad p
          → (drop (pos + 1) s ≡ cs → decimal_from limit (acc * 10 + (c - 48)) (pos + 1) cs ≡ bad p → Across s (pos + 1) p 0)
          → Across s pos p 0
      go true y z e1 e ih = absurd (bad_got p acc pos (sym e))
      go false true z e1 e ih = absurd (bad_got p acc pos (sym e))
      go false false true e1 e ih = stay s pos p e
      go false false false e1 e ih =
          let l : 48 ≤ c = ltb-false c 48 e1 in
          across_then (byte_across c s cs pos (λ z. omega arith) d) (ih (past s (c ∷ []) cs pos d) e)

  at_stops : (pos : ℕ) (cs : List ℕ) → drop pos s ≡ cs → decimal_at limit pos cs ≡ bad p → Across s pos p 0
  unfolding decimal_at
  at_stops pos [] d e = stay s pos p e
  at_stops pos (c ∷ cs) d e = go (eqb c 48) (ltb c 48) (ltb 57 c) (ltb limit (c - 48)) refl e
    where
      go : (w x y z : Bool) → ltb c 48 ≡ x
          → cond w (got 0 (pos + 1))
          (cond x (bad pos) (cond y (bad pos) (cond z (bad pos) (decimal_from limit (c - 48) (pos + 1) cs)))) ≡ bad p
          → Across s pos p 0
      go true x y z e1 e = absurd (bad_got p 0 (pos + 1) (sym e))
      go false true y z e1 e = stay s pos p e
      go false false true z e1 e = stay s pos p e
      go false false false true e1 e = stay s pos p e
      go false false false false e1 e =
          let l : 48 ≤ c = ltb-false c 48 e1 in
          across_then (byte_across c s cs pos (λ z. omega arith) d) (from_stops (c - 48) (pos + 1) cs (past s (c ∷ []) cs pos d) e)

-- the LFs are those of the byte that ends it
pub decimal_feeds : (limit end : ℕ) → limit < 2 ^ 64 → Feeds (line_feeds (end ∷ [])) (decimal limit end)
unfolding decimal_p
decimal_feeds limit end bound = record {
  count = λ n o. feeds_behind (decimal_text n) (end ∷ []) (digits_feeds 19 n) refl;
  stops = λ s at p e.
      failed (decimal_at limit at (drop at s)) (λ n q. then (byte_p end s q) (λ _ e. got n e)) p (at_stops limit s p at (drop at s) refl)
      (λ n m e1 e2. across_then (digits_across s at n m e1) (byte_stops end s m p (made (byte_p end s m) (λ _. n) p e2))) e;
}
  where
    digits_across : (s : List ℕ) (at n m : ℕ) → decimal_at limit at (drop at s) ≡ got n m → Across s at m 0
    digits_across s at n m e =
        let r = read_is limit n m bound at (drop at s) e in
        let rest : drop m s ≡ r.rest = ap (λ (k : ℕ). drop k s) r.next ∙ past s (decimal_text n) r.rest at r.split in
        record {
          between = decimal_text n;
          is = r.split ∙ ap (λ (l : List ℕ). decimal_text n ++ l) (sym rest);
          next = r.next;
          feeds = digits_feeds 19 n;
        }

-- ---- hexadecimal digits

-- no digit is an LF
hex_no_feed : (c : ℕ) → is_hex c ≡ true → c ≡ 10 → ⊥
unfolding is_hex digit_value
hex_no_feed c h e = let z : true ≡ false = sym h ∙ ap is_hex e in let w : ◌≡◌ {A = ℕ} 0 1 = cc in omega arith

digit_feeds : (d : ℕ) → line_feeds (hex_digit d ∷ []) ≡ 0
unfolding hex_digit
digit_feeds d = go (ltb d 10)
  where
    go : (b : Bool) → line_feeds (cond b (48 + d) (87 + d) ∷ []) ≡ 0
    go true = no_feed (48 + d) (λ e. omega arith)
    go false = no_feed (87 + d) (λ e. omega arith)

pub hex_digits_feeds : (k n : ℕ) → line_feeds (hex_digits k n) ≡ 0
unfolding hex_digits line_feeds
hex_digits_feeds zero n = refl
hex_digits_feeds (suc k) n =
    feeds_behind (hex_digits k (n / 16)) (hex_digit (n % 16) ∷ []) (hex_digits_feeds k (n / 16)) (digit_feeds (n % 16))

hex_stops : (k acc : ℕ) (s : List ℕ) (at p : ℕ) → hex_p k acc s at ≡ bad p → Across s at p 0
unfolding hex_p
hex_stops zero acc s at p e = absurd (bad_got p acc at (sym e))
hex_stops (suc k) acc s at p e =
    go (ltb at (length s)) (is_hex (get_or s at 0)) refl refl e (hex_stops k (acc * 16 + digit_value (get_or s at 0)) s (at + 1) p)
  where
    go : (x y : Bool) → ltb at (length s) ≡ x → is_hex (get_or s at 0) ≡ y
        → cond (x && y) (hex_p k (acc * 16 + digit_value (get_or s at 0)) s (at + 1)) (bad at) ≡ bad p
        → (hex_p k (acc * 16 + digit_value (get_or s at 0)) s (at + 1) ≡ bad p → Across s (at + 1) p 0) → Across s at p 0
    go true true e1 e2 e ih =
        let c = get_or s at 0 in
        across_then (byte_across c s (drop (at + 1) s) at (hex_no_feed c e2) (here s at (ltb-true at (length s) e1))) (ih e)
    go true false e1 e2 e ih = stay s at p e
    go false y e1 e2 e ih = stay s at p e

pub hex_feeds : (k : ℕ) → Feeds 0 (hex k)
hex_feeds k = record { count = λ v o. hex_digits_feeds k v; stops = hex_stops k 0 }

-- ---- bytes

pairs_text_feeds : (bs : List ℕ) → line_feeds (pairs_text bs) ≡ 0
unfolding pairs_text line_feeds
pairs_text_feeds [] = refl
pairs_text_feeds (b ∷ bs) =
    feeds_behind (hex_digit (b / 16) ∷ []) (hex_digit (b % 16) ∷ pairs_text bs) (digit_feeds (b / 16))
    (feeds_behind (hex_digit (b % 16) ∷ []) (pairs_text bs) (digit_feeds (b % 16)) (pairs_text_feeds bs))

module _ (end : ℕ) (s : List ℕ) (p : ℕ) where
  pairs_stops : (pos : ℕ) (cs : List ℕ) → drop pos s ≡ cs → pairs_from end pos cs ≡ bad p → Across s pos p 0
  unfolding pairs_from
  pairs_stops pos [] d e = stay s pos p e
  pairs_stops pos (c ∷ []) d e = go (eqb c end) e
    where
      go : (x : Bool) → ◌≡◌ {A = Got (List ℕ)} (cond x (got [] (pos + 1)) (bad pos)) (bad p) → Across s pos p 0
      go true e = absurd (bad_got p [] (pos + 1) (sym e))
      go false e = stay s pos p e
  pairs_stops pos (c ∷ (b ∷ cs)) d e = go (eqb c end) (is_hex c) (is_hex b) refl refl e (pairs_stops (pos + 2) cs)
    where
      go : (x y z : Bool) → is_hex c ≡ y → is_hex b ≡ z
          → cond x (got [] (pos + 1))
          (cond (y && z) (then (pairs_from end (pos + 2) cs) (λ r q. got ((digit_value c * 16 + digit_value b) ∷ r) q)) (bad pos)) ≡ bad p
          → (drop (pos + 2) s ≡ cs → pairs_from end (pos + 2) cs ≡ bad p → Across s (pos + 2) p 0) → Across s pos p 0
      go true y z e1 e2 e ih = absurd (bad_got p [] (pos + 1) (sym e))
      go false true true e1 e2 e ih =
          let d2 : drop (pos + 1) s ≡ b ∷ cs = past s (c ∷ []) (b ∷ cs) pos d in
          let two : pos + 1 + 1 ≡ pos + 2 = omega arith in
          let x = byte_across c s (b ∷ cs) pos (hex_no_feed c e1) d in
          let y : Across s (pos + 1) (pos + 2) 0 = rw two at (byte_across b s cs (pos + 1) (hex_no_feed b e2) d2) in
          across_then (across_then x y) (ih (past s (c ∷ (b ∷ [])) cs pos d) (made (pairs_from end (pos + 2) cs) _ p e))
      go false true false e1 e2 e ih = stay s pos p e
      go false false z e1 e2 e ih = stay s pos p e

-- the LFs are those of the byte that ends them
pub pairs_feeds : (end : ℕ) → Feeds (line_feeds (end ∷ [])) (pairs end)
pairs_feeds end = record {
  count = λ bs o. feeds_behind (pairs_text bs) (end ∷ []) (pairs_text_feeds bs) refl;
  stops = λ s at p e. pairs_stops end s p at (drop at s) refl e;
}
