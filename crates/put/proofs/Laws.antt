-- Laws of writing one piece of text after another, straight on and in a loop, and of a text that is counted.
-- Assumes nothing.
use Prim.Native.Nat.{ℕ, ◌+◌, ◌*◌, ◌≤◌, ◌<◌}
use native.Mathlib.Omega.{arith}
use mathlib.Core.Path.{◌≡◌, refl, sym, ap, ◌∙◌}
use mathlib.Core.Bool.{Bool, true, false}
use mathlib.Core.List.{List, [], ◌++◌}
use lib.Dec.{leb}
use lib.ListN.{length, replicate, length-append}
use lib.Seq.{sets}
use borrow.Author.Tests.{leb-true, leb-false}
use Rattle.memory.specs.Memory.{all_or_zeros}
use Rattle.memory.proofs.Laws.{all_fits, all_over, all_none, all_append, length_all}
use Rattle.put.specs.declared.Cursor.{Cursor}
use Rattle.put.specs.Put.{last, place_after, Laid, Stops, Puts, PutsSome, Ready}

-- ---- a piece

module _ {d e : List ℕ} {at r : ℕ} {ts : List ℕ} where
  pub laid_fits : length d < last → at + length ts ≤ length d → e ≡ sets d at ts → r ≡ at + length ts → Laid d at ts e r
  laid_fits room h b n = record { bytes = b ∙ sym (all_fits 0 d at ts h); next = omega arith }

  pub laid_over : length d < at + length ts → e ≡ replicate (length d) 0 → r ≡ place_after at (length ts) → Laid d at ts e r
  laid_over h b n = record { bytes = b ∙ sym (all_over 0 d at ts true h); next = n }

  -- the same text under another name
  pub laid_as : {us : List ℕ} → Laid d at ts e r → us ≡ ts → Laid d at us e r
  laid_as a p = rw p a

  pub stops_as : {us : List ℕ} → Stops d at ts e r → us ≡ ts → Stops d at us e r
  stops_as a p = rw p a

  pub laid_length : Laid d at ts e r → length e ≡ length d
  laid_length a = ap length a.bytes ∙ length_all 0 d at ts true

  pub stops_length : Stops d at ts e r → length e ≡ length d
  stops_length a = ap length a.bytes ∙ length_all 0 d at ts true

  pub stops_of_laid : length d < last → Laid d at ts e r → Stops d at ts e r
  stops_of_laid room a =
      let n = a.next in
      record { bytes = a.bytes; fits = λ h. omega arith; over = λ h. omega arith }

  -- what comes next can go on from there
  pub stops_ready : Stops d at ts e r → r ≤ last → Ready e r
  stops_ready a most = record { bytes = go (leb (at + length ts) (length d)) refl; next = omega arith }
    where
      long : length e ≡ length d
      long = stops_length a

      go : (b : Bool) → leb (at + length ts) (length d) ≡ b → e ≡ all_or_zeros true e r []
      go true t =
          let h : at + length ts ≤ length d = leb-true _ _ t in
          sym (all_none 0 e r (omega (arith, long, a.fits h)))
      go false t =
          let h : length d < at + length ts = leb-false _ _ t in
          a.bytes
          ∙ (all_over 0 d at ts true h
          ∙ (ap (λ (n : ℕ). replicate n 0) (sym long) ∙ sym (all_over 0 e r [] true (omega (arith, long, a.over h)))))

  pub laid_ready : Laid d at ts e r → length d < last → Ready e r
  laid_ready a room = let n = a.next in stops_ready (stops_of_laid room a) (omega arith)

-- nothing, within the bytes
pub laid_none : (d : List ℕ) (at : ℕ) → length d < last → at ≤ length d → Ready d at
laid_none d at room h = laid_fits room (omega arith) refl (omega arith)

-- a text laid into no bytes at all is counted
pub laid_counted : {ts e : List ℕ} {r : ℕ} → Laid [] 0 ts e r → length ts ≤ last → r ≡ length ts
laid_counted a h = let n = a.next in omega arith

-- ---- one piece after another

module _ {d e f : List ℕ} {at r q : ℕ} {xs ys : List ℕ} where
  module _ (a : Stops d at xs e r) (b : Stops e r ys f q) where
    both : at + length xs ≤ length d → Stops d at (xs ++ ys) f q
    both h =
        let more = length-append xs ys in
        let n : r ≡ at + length xs = a.fits h in
        let long : length e ≡ length d = stops_length a in
        record {
          bytes = b.bytes
              ∙ (ap (λ (l : List ℕ). all_or_zeros true l r ys) a.bytes
              ∙ (ap (λ (i : ℕ). all_or_zeros true (all_or_zeros true d at xs) i ys) n ∙ sym (all_append 0 d at xs ys)));
          fits = λ g. omega (arith, b.fits (omega arith));
          over = λ g. omega (arith, b.over (omega arith));
        }

    -- once a piece does not fit, none does
    none : length d < at + length xs → Stops d at (xs ++ ys) f q
    none h =
        let more = length-append xs ys in
        let long : length e ≡ length d = stops_length a in
        let past : length e < r + length ys = omega (arith, a.over h) in
        let whole : length d < at + length (xs ++ ys) = omega arith in
        record {
          bytes = b.bytes
              ∙ (all_over 0 e r ys true past ∙ (ap (λ (n : ℕ). replicate n 0) long ∙ sym (all_over 0 d at (xs ++ ys) true whole)));
          fits = λ g. omega arith;
          over = λ g. omega (arith, b.over past);
        }

    pub stops_then : Stops d at (xs ++ ys) f q
    stops_then = go (leb (at + length xs) (length d)) refl
      where
        go : (x : Bool) → leb (at + length xs) (length d) ≡ x → Stops d at (xs ++ ys) f q
        go true t = both (leb-true _ _ t)
        go false t = none (leb-false _ _ t)

  pub laid_then : length d < last → Laid d at xs e r → Laid e r ys f q → Laid d at (xs ++ ys) f q
  laid_then room a b =
      let m = a.next in
      let n = b.next in
      let more = length-append xs ys in
      record {
        bytes = (stops_then (stops_of_laid room a) (stops_of_laid (omega (arith, laid_length a)) b)).bytes;
        next = omega arith;
      }

-- ---- pieces in a loop

-- laying us over e from q on gives what laying ts over d from `at` on gives
pub record LaidLeft (d : List ℕ) (at : ℕ) (ts e : List ℕ) (q : ℕ) (us : List ℕ) : Type 0 where
  pub whole : Laid d at ts (all_or_zeros true e q us) (place_after q (length us))
  pub ready : Ready e q

pub left_begun : {d : List ℕ} {at : ℕ} {ts : List ℕ} → Ready d at → LaidLeft d at ts d at ts
left_begun r = record { whole = record { bytes = refl; next = refl }; ready = r }

pub left_length : {d e : List ℕ} {at q : ℕ} {ts us : List ℕ} → LaidLeft d at ts e q us → length e ≡ length d
left_length {d} {e} {at} {q} {ts} {us} l = sym (length_all 0 e q us true) ∙ laid_length l.whole

-- the piece xs is the first of what was left
pub left_more : {d e f : List ℕ} {at q r : ℕ} {ts vs xs us : List ℕ} → length d < last → LaidLeft d at ts e q vs
    → vs ≡ xs ++ us → Laid e q xs f r → LaidLeft d at ts f r us
left_more {d} {e} {f} {at} {q} {r} {ts} {vs} {xs} {us} room l p a =
    let long : length e < last = omega (arith, left_length l) in
    let rest : Laid e q (xs ++ us) (all_or_zeros true f r us) (place_after r (length us)) =
    laid_then long a (record { bytes = refl; next = refl }) in
    record {
      whole = record {
        bytes = rest.bytes ∙ (ap (λ (x : List ℕ). all_or_zeros true e q x) (sym p) ∙ l.whole.bytes);
        next = rest.next ∙ (ap (λ (x : List ℕ). place_after q (length x)) (sym p) ∙ l.whole.next);
      };
      ready = laid_ready a long;
    }

pub left_done : {d e : List ℕ} {at q : ℕ} {ts vs : List ℕ} → LaidLeft d at ts e q vs → vs ≡ [] → Laid d at ts e q
left_done {d} {e} {at} {q} {ts} {vs} l p =
    record {
      bytes = l.ready.bytes ∙ (ap (λ (x : List ℕ). all_or_zeros true e q x) (sym p) ∙ l.whole.bytes);
      next = l.ready.next ∙ (ap (λ (x : List ℕ). place_after q (length x)) (sym p) ∙ l.whole.next);
    }

-- a piece did not fit: nothing that is left does
pub left_stopped : {d e : List ℕ} {at q : ℕ} {ts vs : List ℕ} → length d < last → LaidLeft d at ts e q vs → length e < q
    → Stops d at ts e q
left_stopped {d} {e} {at} {q} {ts} {vs} room l past =
    let long : length e ≡ length d = left_length l in
    let n = l.whole.next in
    let zeros : e ≡ replicate (length e) 0 = l.ready.bytes ∙ all_over 0 e q [] true (omega arith) in
    record {
      bytes = zeros ∙ (sym (all_over 0 e q vs true (omega arith)) ∙ l.whole.bytes);
      fits = λ h. omega arith;
      over = λ h. omega arith;
    }

-- ---- at a cursor

module _ {c d : Cursor} {ts : List ℕ} where
  -- the same text under another name
  pub puts_as : {us : List ℕ} → Puts c ts d → us ≡ ts → Puts c us d
  puts_as a p = record { laid = laid_as a.laid p; lender = a.lender }

  pub some_as : {us : List ℕ} → PutsSome c ts d → us ≡ ts → PutsSome c us d
  some_as a p = record { stops = stops_as a.stops p; lender = a.lender }

  pub some_of_puts : length c.bytes.now < last → Puts c ts d → PutsSome c ts d
  some_of_puts room a = record { stops = stops_of_laid room a.laid; lender = a.lender }

-- what lending bytes tells of their number: one byte each, and fewer than 2^63
abbrev pub Lent : Cursor → Type 0
Lent c = length c.bytes.now * 1 < 9_223_372_036_854_775_808

module _ {c d e : Cursor} {xs ys : List ℕ} where
  pub puts_then : length c.bytes.now < last → Puts c xs d → Puts d ys e → Puts c (xs ++ ys) e
  puts_then room a b = record { laid = laid_then room a.laid b.laid; lender = b.lender ∙ a.lender }

  pub some_then : PutsSome c xs d → PutsSome d ys e → PutsSome c (xs ++ ys) e
  some_then a b = record { stops = stops_then a.stops b.stops; lender = b.lender ∙ a.lender }

  -- what comes behind goes into as many bytes
  pub puts_on : Puts c xs d → Lent c → (Lent d → Puts d ys e) → Puts c (xs ++ ys) e
  puts_on a l more =
      let same : length d.bytes.now ≡ length c.bytes.now = laid_length a.laid in
      puts_then (omega arith) a (more (omega arith))

-- ---- pieces in a loop, at a cursor

-- putting us at d gives what putting ts at c gives
pub record PutsLeft (c : Cursor) (ts : List ℕ) (d : Cursor) (us : List ℕ) : Type 0 where
  pub left : LaidLeft c.bytes.now c.at ts d.bytes.now d.at us
  pub lender : d.bytes.ghost_name ≡ c.bytes.ghost_name

pub puts_begun : {c : Cursor} {ts : List ℕ} → Ready c.bytes.now c.at → PutsLeft c ts c ts
puts_begun r = record { left = left_begun r; lender = refl }

pub puts_more : {c d e : Cursor} {ts vs xs us : List ℕ} → length c.bytes.now < last → PutsLeft c ts d vs → vs ≡ xs ++ us
    → Puts d xs e → PutsLeft c ts e us
puts_more room l p a = record { left = left_more room l.left p a.laid; lender = a.lender ∙ l.lender }

pub puts_done : {c d : Cursor} {ts vs : List ℕ} → PutsLeft c ts d vs → vs ≡ [] → Puts c ts d
puts_done l p = record { laid = left_done l.left p; lender = l.lender }

-- a piece did not fit: nothing that is left does
pub puts_stopped : {c d : Cursor} {ts vs : List ℕ} → length c.bytes.now < last → PutsLeft c ts d vs → length d.bytes.now < d.at
    → PutsSome c ts d
puts_stopped room l past = record { stops = left_stopped room l.left past; lender = l.lender }
