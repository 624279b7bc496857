-- How many LFs the texts of a grammar have, and that a reading which fails stops in the line that it began in. Assumes nothing.
use Prim.Native.Nat.{ℕ, suc, ◌+◌, ◌-◌}
use mathlib.Core.Path.{◌≡◌, refl, sym, ap, ◌∙◌}
use mathlib.Core.Logic.{◌⊎◌, inl, inr}
use mathlib.Core.Bool.{Bool, true, false, cond}
use mathlib.Core.List.{List, [], ◌∷◌, ◌++◌, append_assoc, append-nil}
use native.Mathlib.Omega.{arith}
use lib.Dec.{ltb, eqb, T}
use lib.ListN.{length, take, drop, get_or, length-append}
use lib.Seq.{take_at}
use borrow.Author.Tests.{ne_eqb, eqb-false}
use Rattle.grammar.specs.Gram.{Got, Gram, Exactly, line_feeds, line_of}
use Rattle.grammar.specs.Gram.Got.{got, bad}
use Rattle.grammar.specs.Parts.{
  then,
  byte_p,
  word_p,
  word,
  behind,
  ended,
  following,
  both,
  pick,
  choice,
  read_as,
  kept,
  such,
  only,
  is_second,
  second,
  either,
}
use Rattle.grammar.proofs.Places.{past, bad_got}
use Rattle.grammar.proofs.Parts.{ByteGot, byte_got, word_exact}

-- ---- LFs

pub feeds_append : (x y : List ℕ) → line_feeds (x ++ y) ≡ line_feeds x + line_feeds y
unfolding line_feeds
feeds_append [] y = omega arith
feeds_append (c ∷ x) y = go (eqb c 10) (feeds_append x y)
  where
    go : (b : Bool) → line_feeds (x ++ y) ≡ line_feeds x + line_feeds y
        → cond b (suc (line_feeds (x ++ y))) (line_feeds (x ++ y)) ≡ cond b (suc (line_feeds x)) (line_feeds x) + line_feeds y
    go true h = omega arith
    go false h = omega arith

pub feeds_behind : (x y : List ℕ) {k : ℕ} → line_feeds x ≡ 0 → line_feeds y ≡ k → line_feeds (x ++ y) ≡ k
feeds_behind x y a b = let h = feeds_append x y in omega arith

-- a byte that is no LF
pub no_feed : (c : ℕ) → (c ≡ 10 → ⊥) → line_feeds (c ∷ []) ≡ 0
unfolding line_feeds
no_feed c h = rw (ne_eqb c 10 h)

-- n LFs stand from one place of a text to another
pub record Across (s : List ℕ) (at q n : ℕ) : Type 0 where
  pub between : List ℕ
  pub is : drop at s ≡ between ++ drop q s
  pub next : q ≡ at + length between
  pub feeds : line_feeds between ≡ n

pub across_none : (s : List ℕ) (at : ℕ) → Across s at at 0
unfolding line_feeds
across_none s at = record { between = []; is = refl; next = omega arith; feeds = refl }

pub across_then : {s : List ℕ} {at m q a b : ℕ} → Across s at m a → Across s m q b → Across s at q (a + b)
across_then x y =
    let i = x.next in
    let j = y.next in
    record {
      between = x.between ++ y.between;
      is = rw append_assoc (x.is ∙ ap (λ (l : List ℕ). x.between ++ l) y.is);
      next = simp length-append (omega arith);
      feeds = feeds_append x.between y.between ∙ rw (x.feeds, y.feeds);
    }

-- the line of a place
pub line_across : {s : List ℕ} {q n : ℕ} → Across s 0 q n → line_of s q ≡ suc n
unfolding line_of
line_across {s} {q} {n} x =
    let i : length x.between ≡ q = omega (arith, x.next) in
    let t : take q s ≡ x.between = ap (take q) x.is ∙ take_at x.between (drop q s) q i in
    rw t (ap suc x.feeds)

-- ---- grammars

pub record Feeds (k : ℕ) {A : Type 0} (g : Gram A) : Type 0 where
  -- the LFs of every text
  pub count : (a : A) → g.Ok a → line_feeds (g.text a) ≡ k
  -- where reading fails, no LF was passed
  pub stops : (s : List ℕ) (at p : ℕ) → g.parse s at ≡ bad p → Across s at p 0

pub across_got : {A : Type 0} {g : Gram A} {k : ℕ} → Exactly g → Feeds k g → (s : List ℕ) (at : ℕ) (a : A) (q : ℕ)
    → g.parse s at ≡ got a q → Across s at q k
across_got {g = g} G F s at a q e = record {
  between = g.text a;
  is = G.split s at a q e;
  next = G.next s at a q e;
  feeds = F.count a (G.ok s at a q e);
}

-- of two readers, one after the other, the first failed, or the second did behind what the first got
pub failed : {A B R : Type 0} (g : Got A) (f : A → ℕ → Got B) (p : ℕ) → (g ≡ bad p → R)
    → ((a : A) (m : ℕ) → g ≡ got a m → f a m ≡ bad p → R) → then g f ≡ bad p → R
failed (got a m) f p one two e = two a m refl e
failed (bad q) f p one two e = let z : q ≡ p = cc in one (rw z)

-- a value that is only made into another
pub made : {A B : Type 0} (g : Got A) (f : A → B) (p : ℕ) → then g (λ a q. got (f a) q) ≡ bad p → g ≡ bad p
made g f p e = failed g (λ a q. got (f a) q) p (λ z. z) (λ a m _ e2. absurd (bad_got p (f a) m (sym e2))) e

-- ---- words

-- no LF stands before the last byte
unfoldable pub in_line : List ℕ → Bool
in_line [] = true
in_line (c ∷ []) = true
in_line (c ∷ (d ∷ w)) = cond (eqb c 10) false (in_line (d ∷ w))

-- reading fails at the place that it began at
pub stay : {A : Type 0} (s : List ℕ) (at p : ℕ) → ◌≡◌ {A = Got A} (bad at) (bad p) → Across s at p 0
stay s at p e = let z : at ≡ p = cc in rw z (across_none s p)

pub byte_stops : (b : ℕ) (s : List ℕ) (at p : ℕ) → byte_p b s at ≡ bad p → Across s at p 0
unfolding byte_p
byte_stops b s at p e = go (ltb at (length s)) (eqb (get_or s at 0) b) e
  where
    go : (y z : Bool) → cond y (cond z (got (tt {0}) (at + 1)) (bad at)) (bad at) ≡ bad p → Across s at p 0
    go true true f = absurd (bad_got p tt (at + 1) (sym f))
    go true false f = stay s at p f
    go false z f = stay s at p f

-- a byte that is no LF was read
pub byte_across : (c : ℕ) (s t : List ℕ) (at : ℕ) → (c ≡ 10 → ⊥) → drop at s ≡ c ∷ t → Across s at (at + 1) 0
byte_across c s t at h e =
    record { between = c ∷ []; is = e ∙ ap (λ (l : List ℕ). c ∷ l) (sym (past s (c ∷ []) t at e)); next = refl; feeds = no_feed c h }

word_stops : (w : List ℕ) → T (in_line w) → (s : List ℕ) (at p : ℕ) → word_p w s at ≡ bad p → Across s at p 0
unfolding word_p in_line
word_stops [] h s at p e = absurd (bad_got p tt at (sym e))
word_stops (c ∷ []) h s at p e = byte_stops c s at p (made (byte_p c s at) (λ _. tt) p e)
word_stops (c ∷ (d ∷ w)) h s at p e = go (eqb c 10) refl h (word_stops (d ∷ w))
  where
    later : {m : ℕ} → eqb c 10 ≡ false → ByteGot c s at m
        → ((s : List ℕ) (at p : ℕ) → word_p (d ∷ w) s at ≡ bad p → Across s at p 0) → word_p (d ∷ w) s m ≡ bad p → Across s at p 0
    later {m} f b ih e =
        across_then (byte_across c s (drop m s) at (eqb-false c 10 f) b.is) (ih s (at + 1) p (rw b.next at e))

    go : (b : Bool) → eqb c 10 ≡ b → T (cond b false (in_line (d ∷ w)))
        → (T (in_line (d ∷ w)) → (s : List ℕ) (at p : ℕ) → word_p (d ∷ w) s at ≡ bad p → Across s at p 0) → Across s at p 0
    go true f h ih = absurd h
    go false f h ih =
        failed (byte_p c s at) (λ _ q. word_p (d ∷ w) s q) p (byte_stops c s at p) (λ a m e1 e2. later f (byte_got c s at a m e1) (ih h) e2) e

pub word_feeds : (w : List ℕ) → T (in_line w) → Feeds (line_feeds w) (word w)
word_feeds w h = record { count = λ _ _. refl; stops = word_stops w h }

-- ---- one after the other

module _ {A : Type 0} {g : Gram A} {w : List ℕ} {k : ℕ} where
  pub behind_feeds : Feeds 0 (word w) → Feeds k g → Feeds k (behind w g)
  behind_feeds W F = record {
    count = λ a o. feeds_behind w (g.text a) (W.count tt tt) (F.count a o);
    stops = λ s at p e.
        failed (word_p w s at) (λ _ q. g.parse s q) p (W.stops s at p)
        (λ x m e1 e2. across_then (across_got (word_exact w) W s at x m e1) (F.stops s m p e2)) e;
  }

  pub ended_feeds : Exactly g → Feeds 0 g → Feeds k (word w) → Feeds k (ended g w)
  ended_feeds G F W = record {
    count = λ a o. feeds_behind (g.text a) w (F.count a o) (W.count tt tt);
    stops = λ s at p e.
        failed (g.parse s at) (λ a q. then (word_p w s q) (λ _ e. got a e)) p (F.stops s at p)
        (λ a m e1 e2. across_then (across_got G F s at a m e1) (W.stops s m p (made (word_p w s m) (λ _. a) p e2))) e;
  }

module _ {A B : Type 0} {g : Gram A} {h : A → Gram B} {k : ℕ} where
  pub following_feeds : Exactly g → Feeds 0 g → ((a : A) → Feeds k (h a)) → Feeds k (following g h)
  following_feeds G F H = record {
    count = λ x o. feeds_behind (g.text x.0) ((h x.0).text x.1) (F.count x.0 o.0) ((H x.0).count x.1 o.1);
    stops = λ s at p e.
        failed (g.parse s at) (λ a q. then ((h a).parse s q) (λ b e. got (a, b) e)) p (F.stops s at p)
        (λ a m e1 e2. across_then (across_got G F s at a m e1) ((H a).stops s m p (made ((h a).parse s m) (λ b. (a, b)) p e2))) e;
  }

pub both_feeds : {A B : Type 0} {g : Gram A} {h : Gram B} {k : ℕ} → Exactly g → Feeds 0 g → Feeds k h → Feeds k (both g h)
both_feeds G F H = following_feeds G F (λ _. H)

-- ---- a choice

module _ {A B : Type 0} (w : List ℕ) (g : Gram A) {h : Gram B} {k : ℕ} where
  choice_of : Feeds k (behind w g) → Feeds k h → Feeds k (choice w g h)
  choice_of F H = record { count = count; stops = λ s at p e. go s at p (word_p w s at) refl e }
    where
      count : (x : A ⊎ B) → (choice w g h).Ok x → line_feeds ((choice w g h).text x) ≡ k
      count (inl a) o = F.count a o
      count (inr b) o = H.count b o

      go : (s : List ℕ) (at p : ℕ) (y : Got (Unit {0})) → word_p w s at ≡ y
          → pick y (λ q. g.parse s q) (λ _. h.parse s at) ≡ bad p → Across s at p 0
      go s at p (got z m) e1 e2 = F.stops s at p (rw e1 (made (g.parse s m) inl p e2))
      go s at p (bad q) e1 e2 = H.stops s at p (made (h.parse s at) inr p e2)

pub choice_feeds : {A B : Type 0} {w : List ℕ} {g : Gram A} {h : Gram B} {k : ℕ} → Feeds 0 (word w) → Feeds k g → Feeds k h
    → Feeds k (choice w g h)
choice_feeds {w = w} {g} W F H = choice_of w g (behind_feeds W F) H

-- ---- values

pub read_as_feeds : {A B : Type 0} {g : Gram A} {k : ℕ} (to : A → B) (back : B → A) → Feeds k g → Feeds k (read_as to back g)
read_as_feeds {g = g} to back F =
    record { count = λ b o. F.count (back b) o; stops = λ s at p e. F.stops s at p (made (g.parse s at) to p e) }

pub only_feeds : {A : Type 0} {w : List ℕ} {k : ℕ} (a : A) → Feeds k (word w) → Feeds k (only a w)
only_feeds {w = w} a W =
    record { count = λ b o. W.count tt tt; stops = λ s at p e. W.stops s at p (made (word_p w s at) (λ _. a) p e) }

pub such_feeds : {A : Type 0} {g : Gram A} {k : ℕ} (test : A → Bool) → Feeds k g → Feeds k (such test g)
such_feeds {A} {g} test F = record {
  count = λ a o. F.count a o.0;
  stops = λ s at p e.
      failed (g.parse s at) (λ a q. kept (test a) a at q) p (F.stops s at p) (λ a m e1 e2. go s at p (test a) a m e2) e;
}
  where
    go : (s : List ℕ) (at p : ℕ) (x : Bool) (a : A) (m : ℕ) → kept x a at m ≡ bad p → Across s at p 0
    go s at p true a m e = absurd (bad_got p a m (sym e))
    go s at p false a m e = stay s at p e

pub either_feeds : {w v : List ℕ} {k : ℕ} → Feeds k (word w) → Feeds k (word v) → Feeds k (either w v)
unfolding word_p
either_feeds {w} {v} {k} W X = read_as_feeds is_second second (choice_of w (word []) bare X)
  where
    bare : Feeds k (behind w (word []))
    bare = record {
      count = λ _ _. ap line_feeds (append-nil w) ∙ W.count tt tt;
      stops = λ s at p e. W.stops s at p (made (word_p w s at) (λ _. tt) p e);
    }
