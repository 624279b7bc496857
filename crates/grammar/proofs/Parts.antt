-- Grammars put together from exact grammars are exact: words, one after the other, a number of them, values read as others.
-- Assumes nothing.
use Prim.Native.Nat.{ℕ, zero, suc, ◌+◌}
use mathlib.Core.Path.{◌≡◌, refl, sym, ap, ◌∙◌, subst}
use mathlib.Core.Bool.{Bool, true, false, cond}
use mathlib.Core.List.{List, [], ◌∷◌, ◌++◌, append_assoc}
use native.Mathlib.Omega.{arith}
use lib.Dec.{ltb, eqb, T}
use lib.ListN.{length, drop, get_or, length-append}
use borrow.Author.Tests.{lt-ltb, eq-eqb, ltb-true, eqb-true}
use Rattle.grammar.specs.Gram.{Gram, Exactly}
use Rattle.grammar.specs.Gram.Got.{got, bad}
use Rattle.grammar.specs.Parts.{
  then,
  byte_p,
  word_p,
  word,
  behind,
  ended,
  following,
  both,
  times_p,
  times_text,
  times_ok,
  times,
  read_as,
  kept,
  such,
  only,
}
use Rattle.grammar.proofs.Places.{past, within, here, at_head, bad_got, from, Steps, steps}
use Rattle.grammar.proofs.Before.{exactly_before, before_exactly, following_before, read_as_before}

-- ---- words

pub record ByteGot (b : ℕ) (s : List ℕ) (at q : ℕ) : Type 0 where
  pub is : drop at s ≡ b ∷ drop q s
  pub next : q ≡ at + 1

pub byte_got : (b : ℕ) (s : List ℕ) (at : ℕ) (x : Unit {0}) (q : ℕ) → byte_p b s at ≡ got x q → ByteGot b s at q
unfolding byte_p
byte_got b s at x q e = go (ltb at (length s)) (eqb (get_or s at 0) b) refl refl e
  where
    go : (y z : Bool) → ltb at (length s) ≡ y → eqb (get_or s at 0) b ≡ z
        → cond y (cond z (got (tt {0}) (at + 1)) (bad at)) (bad at) ≡ got x q → ByteGot b s at q
    go true true e1 e2 e3 =
        let a : at + 1 ≡ q = cc in
        record {
          is = here s at (ltb-true _ _ e1) ∙ (ap (λ (c : ℕ). c ∷ drop (at + 1) s) (eqb-true _ _ e2) ∙ ap (λ (k : ℕ). b ∷ drop k s) a);
          next = sym a;
        }
    go true false e1 e2 e3 = absurd (bad_got at x q e3)
    go false z e1 e2 e3 = absurd (bad_got at x q e3)

pub byte_reads : (b : ℕ) (s t : List ℕ) (at : ℕ) → drop at s ≡ b ∷ t → byte_p b s at ≡ got tt (at + 1)
unfolding byte_p
byte_reads b s t at e = rw (lt-ltb _ _ (within s t at b e), eq-eqb _ _ (at_head s t at b e))

pub record WordGot (w : List ℕ) (s : List ℕ) (at q : ℕ) : Type 0 where
  pub is : drop at s ≡ w ++ drop q s
  pub next : q ≡ at + length w

pub word_got : (w : List ℕ) (s : List ℕ) (at : ℕ) (x : Unit {0}) (q : ℕ) → word_p w s at ≡ got x q → WordGot w s at q
unfolding word_p
word_got [] s at x q e = let z : at ≡ q = cc in record { is = rw z; next = omega arith }
word_got (b ∷ w) s at x q e = go (steps (byte_p b s at) (λ _ k. word_p w s k) x q e) (word_got w s)
  where
    go : Steps (byte_p b s at) (λ _ k. word_p w s k) x q
        → ((at : ℕ) (x : Unit {0}) (q : ℕ) → word_p w s at ≡ got x q → WordGot w s at q) → WordGot (b ∷ w) s at q
    go m ih =
        let f = byte_got b s at m.val m.mid m.one in
        let r = ih m.mid x q m.two in
        let i = f.next in
        let j = r.next in
        record { is = f.is ∙ ap (λ (l : List ℕ). b ∷ l) r.is; next = omega arith }

pub word_reads : (w : List ℕ) (s t : List ℕ) (at : ℕ) → drop at s ≡ w ++ t → word_p w s at ≡ got tt (at + length w)
unfolding word_p
word_reads [] s t at e = let z : at + 0 ≡ at = omega arith in rw z
word_reads (b ∷ w) s t at e =
    let n : at + 1 + length w ≡ at + suc (length w) = omega arith in
    rw (byte_reads b s (w ++ t) at e, word_reads w s t (at + 1) (past s (b ∷ []) (w ++ t) at e), n)

pub word_exact : (w : List ℕ) → Exactly (word w)
word_exact w = record {
  reads = λ s at x t o e. word_reads w s t at e;
  ok = λ s at x q e. tt;
  next = λ s at x q e. (word_got w s at x q e).next;
  split = λ s at x q e. (word_got w s at x q e).is;
}

module _ {A : Type 0} {g : Gram A} (G : Exactly g) (w : List ℕ) where
  pub behind_exact : Exactly (behind w g)
  behind_exact = record {
    reads = λ s at a t o e.
        let e1 : drop at s ≡ w ++ (g.text a ++ t) = e ∙ append_assoc w (g.text a) t in
        let n : at + length w + length (g.text a) ≡ at + length (w ++ g.text a) = simp length-append (omega arith) in
        rw (word_reads w s (g.text a ++ t) at e1, G.reads s (at + length w) a t o (past s w (g.text a ++ t) at e1), n);
    ok = λ s at a q e. let m = steps (word_p w s at) (λ _ k. g.parse s k) a q e in G.ok s m.mid a q m.two;
    next = λ s at a q e.
        let m = steps (word_p w s at) (λ _ k. g.parse s k) a q e in
        let i = (word_got w s at m.val m.mid m.one).next in
        let j = G.next s m.mid a q m.two in
        simp length-append (omega arith);
    split = λ s at a q e.
        let m = steps (word_p w s at) (λ _ k. g.parse s k) a q e in
        rw append_assoc
        ((word_got w s at m.val m.mid m.one).is ∙ ap (λ (l : List ℕ). w ++ l) (G.split s m.mid a q m.two));
  }

-- ---- one after the other

module _ {A B : Type 0} {g : Gram A} {h : A → Gram B} (G : Exactly g) (H : (a : A) → Exactly (h a)) where
  pub following_exact : Exactly (following g h)
  following_exact = before_exactly (following_before (exactly_before G) (λ a. exactly_before (H a)) (λ a b t o m. tt))

pub both_exact : {A B : Type 0} {g : Gram A} {h : Gram B} → Exactly g → Exactly h → Exactly (both g h)
both_exact G H = following_exact G (λ _. H)

module _ {A : Type 0} {g : Gram A} (G : Exactly g) (w : List ℕ) where
  ended_pair : (s : List ℕ) (at : ℕ) (a : A) (q : ℕ) → (ended g w).parse s at ≡ got a q → (both g (word w)).parse s at ≡ got (a, tt) q
  ended_pair s at a q e =
      let m = steps (g.parse s at) (λ b k. then (word_p w s k) (λ _ n. got b n)) a q e in
      let f = from (word_p w s m.mid) (λ _. m.val) a q m.two in
      rw (m.one, f.is) (ap (λ (b : A). got (b, tt) q) f.made)

  pub ended_exact : Exactly (ended g w)
  ended_exact = record {
    reads = λ s at a t o e.
        let u = g.text a in
        let e1 : drop at s ≡ u ++ (w ++ t) = e ∙ append_assoc u w t in
        let n : at + length u + length w ≡ at + length (u ++ w) = simp length-append (omega arith) in
        rw (G.reads s at a (w ++ t) o e1, word_reads w s t (at + length u) (past s u (w ++ t) at e1), n);
    ok = λ s at a q e. ((both_exact G (word_exact w)).ok s at (a, tt) q (ended_pair s at a q e)).0;
    next = λ s at a q e. (both_exact G (word_exact w)).next s at (a, tt) q (ended_pair s at a q e);
    split = λ s at a q e. (both_exact G (word_exact w)).split s at (a, tt) q (ended_pair s at a q e);
  }

-- ---- values

pub only_exact : {A : Type 0} (a : A) (w : List ℕ) → Exactly (only a w)
only_exact a w = record {
  reads = λ s at b t o e. rw (word_reads w s t at e, o);
  ok = λ s at b q e. sym (from (word_p w s at) (λ _. a) b q e).made;
  next = λ s at b q e. let m = from (word_p w s at) (λ _. a) b q e in (word_got w s at m.val q m.is).next;
  split = λ s at b q e. let m = from (word_p w s at) (λ _. a) b q e in (word_got w s at m.val q m.is).is;
}

module _ {A B : Type 0} {g : Gram A} (G : Exactly g) (to : A → B) (back : B → A)
    (back_to : (a : A) → g.Ok a → back (to a) ≡ a) (to_back : (b : B) → to (back b) ≡ b) where
  pub read_as_exact : Exactly (read_as to back g)
  read_as_exact = before_exactly (read_as_before (exactly_before G) to back back_to to_back)

module _ {A : Type 0} {g : Gram A} (G : Exactly g) (test : A → Bool) where
  pub record Tested (s : List ℕ) (at : ℕ) (a : A) (q : ℕ) : Type 0 where
    pub is : g.parse s at ≡ got a q
    pub passed : T (test a)

  pub tested : (s : List ℕ) (at : ℕ) (a : A) (q : ℕ) → (such test g).parse s at ≡ got a q → Tested s at a q
  tested s at a q e = go (steps (g.parse s at) (λ b k. kept (test b) b at k) a q e)
    where
      go : Steps (g.parse s at) (λ b k. kept (test b) b at k) a q → Tested s at a q
      go m = go2 (test m.val) refl m.two
        where
          go2 : (x : Bool) → test m.val ≡ x → kept x m.val at m.mid ≡ got a q → Tested s at a q
          go2 true f e2 =
              let v : m.val ≡ a = cc in
              let k : m.mid ≡ q = cc in
              record {
                is = m.one ∙ (ap (λ (b : A). got b m.mid) v ∙ ap (λ (n : ℕ). got a n) k);
                passed = subst T (sym (sym (ap test v) ∙ f)) tt;
              }
          go2 false f e2 = absurd (bad_got at a q e2)

  kept_passed : (x : Bool) (a : A) (at q : ℕ) → T x → kept x a at q ≡ got a q
  kept_passed true a at q h = refl
  kept_passed false a at q h = absurd h

  pub such_exact : Exactly (such test g)
  such_exact = record {
    reads = λ s at a t o e. rw (G.reads s at a t o.0 e) (kept_passed (test a) a at (at + length (g.text a)) o.1);
    ok = λ s at a q e. let m = tested s at a q e in (G.ok s at a q m.is, m.passed);
    next = λ s at a q e. G.next s at a q (tested s at a q e).is;
    split = λ s at a q e. G.split s at a q (tested s at a q e).is;
  }

-- ---- a number of them

module _ {A : Type 0} {g : Gram A} (G : Exactly g) where
  times_reads : (n : ℕ) (s : List ℕ) (at : ℕ) (l : List A) (t : List ℕ) → (times n g).Ok l → drop at s ≡ (times n g).text l ++ t
      → (times n g).parse s at ≡ got l (at + length ((times n g).text l))
  unfolding times_p times_text
  times_reads zero s at [] t o e = let z : at + 0 ≡ at = omega arith in rw z
  times_reads zero s at (a ∷ l) t o e = absurd o
  times_reads (suc n) s at [] t o e = absurd o
  times_reads (suc n) s at (a ∷ l) t o e =
      let u = g.text a in
      let v = times_text g.text l in
      let e1 : drop at s ≡ u ++ (v ++ t) = e ∙ append_assoc u v t in
      let m : at + length u + length v ≡ at + length (u ++ v) = simp length-append (omega arith) in
      rw (G.reads s at a (v ++ t) o.0 e1, times_reads n s (at + length u) l t o.1 (past s u (v ++ t) at e1), m)

  pub record Times (n : ℕ) (s : List ℕ) (at : ℕ) (l : List A) (q : ℕ) : Type 0 where
    pub ok : (times n g).Ok l
    pub next : q ≡ at + length ((times n g).text l)
    pub split : drop at s ≡ (times n g).text l ++ drop q s

  times_none : (s : List ℕ) (at : ℕ) (l : List A) (q : ℕ) → got [] at ≡ got l q → Times zero s at l q
  unfolding times_p times_text
  times_none s at l q e =
      let a : [] ≡ l = cc in
      let b : at ≡ q = cc in
      rw (← a, ← b) (record { ok = tt; next = omega arith; split = refl })

  times_some : (n : ℕ) (s : List ℕ) (at : ℕ) (l : List A) (q : ℕ)
      (m : Steps (g.parse s at) (λ a k. then (times_p n g.parse s k) (λ r e. got (a ∷ r) e)) l q)
      → ((at : ℕ) (l : List A) (q : ℕ) → times_p n g.parse s at ≡ got l q → Times n s at l q) → Times (suc n) s at l q
  unfolding times_p times_text
  times_some n s at l q m ih =
      let f = from (times_p n g.parse s m.mid) (λ r. m.val ∷ r) l q m.two in
      let i = ih m.mid f.val q f.is in
      let x = i.next in
      let y = G.next s at m.val m.mid m.one in
      rw (← f.made)
      (record {
        ok = (G.ok s at m.val m.mid m.one, i.ok);
        next = simp length-append (omega arith);
        split = rw append_assoc
            (G.split s at m.val m.mid m.one ∙ ap (λ (w : List ℕ). g.text m.val ++ w) i.split);
      })

  times_got : (n : ℕ) (s : List ℕ) (at : ℕ) (l : List A) (q : ℕ) → (times n g).parse s at ≡ got l q → Times n s at l q
  unfolding times_p
  times_got zero s at l q e = times_none s at l q e
  times_got (suc n) s at l q e =
      times_some n s at l q (steps (g.parse s at) (λ a k. then (times_p n g.parse s k) (λ r e. got (a ∷ r) e)) l q e) (times_got n s)

  pub times_exact : (n : ℕ) → Exactly (times n g)
  times_exact n = record {
    reads = times_reads n;
    ok = λ s at l q e. (times_got n s at l q e).ok;
    next = λ s at l q e. (times_got n s at l q e).next;
    split = λ s at l q e. (times_got n s at l q e).split;
  }

-- n values are a list of that length
pub times_length : {A : Type 0} (o : A → Type 0) (n : ℕ) (l : List A) → times_ok o n l → length l ≡ n
times_length o zero [] h = refl
times_length o zero (a ∷ l) h = absurd h
times_length o (suc n) [] h = absurd h
times_length o (suc n) (a ∷ l) h = ap suc (times_length o n l h.1)
